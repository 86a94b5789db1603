-- What a client keeps between its calls.
use Rattle.std.specs.Prelude.{ℕ, ◌≡◌, ◌⊎◌, ◌==◌, ◌&&◌, Bool, [], length, Some}
use Rattle.lw_model.specs.Threads.{thread_count}
use Rattle.lw_poller.specs.Pollers.{same}
use Rattle.lw_thread.specs.Acts.{Known, Asks}
use Rattle.lw_whole.specs.Letters.{Letter}
use Rattle.std.specs.Arc.{arc_value}
use Rattle.lw_pool.specs.PoolEnds.{new_pass}
use Rattle.lw_device.specs.Rows.{new_row}
use Rattle.lw_channel.specs.Channels.{new_set}
use Rattle.lw_mail.specs.Runs.{Run}
use Rattle.lw_client.specs.declared.client.Client.{Client}
use Rattle.lw_client.specs.Clients.{IsClientOf, IsSound, AreLive, NoneLive, is_done, active}

-- it is one of the run that its ring's family names, by its thread's number, and it is sound; its pollers are live, or none is as yet
pub record Keeps (k : Known Letter Run) (a : Asks Letter) (b : Client) : Type 0 where
  pub run : Run
  pub family : k.family ≡ Some run
  pub number : k.thread ≡ b.thread
  pub threads : length k.sent ≡ thread_count run.script
  pub sound : IsSound run b
  pub pollers : AreLive a.live b.stage b.waits ⊎ NoneLive a.live b.waits

-- the client is done, and keeps no message
abbrev pub may_end : Client → Bool
may_end b = is_done b.stage && length b.kept == 0

-- what is under way once the first poller was added: its own, and nothing else
abbrev pub first_poller : Asks Letter
first_poller = record { live = λ n. same n active; pending = [] }

-- a client may begin in this run as this thread: it is one of the run's clients, its set is that of a row that was not used, and its pass
-- has lent nothing
pub record MayBegin (r : Run) (thread : ℕ) (b : Client) : Type 0 where
  pub of_run : IsClientOf r (arc_value b.script) thread b.depth
  pub set : b.set ≡ Some (new_set (new_row r.registry thread))
  pub pool : b.pool ≡ new_pass r.pool thread
