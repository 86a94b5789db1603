-- What the app leaves behind when its thread ends.
use Rattle.std.specs.Prelude.{ℕ, ◌+◌, ◌≡◌, ◌<◌, ◌≤◌, List, length}
use Rattle.lw_base.specs.Letters.{list_at}
use Rattle.lw_base.specs.declared.moves.Hop.{Hop}
use Rattle.lw_device.specs.Rows.{latches, seat_of}
use Rattle.lw_channel.specs.Channels.{IsEmpty}
use Rattle.lw_model.specs.Sent.{to_thread}
use Rattle.lw_thread.specs.Acts.{Known}
use Rattle.lw_whole.specs.Letters.{Letter}
use Rattle.lw_whole.specs.Logs.{Log, all_sends}
use Rattle.lw_whole.specs.Threads.{Ended, HasRole}
use Rattle.lw_mail.specs.Runs.{Run}
use Rattle.lw_mail.specs.Saying.{notes_of}
use Rattle.lw_app.specs.declared.app.App.{App}

-- The log of a thread that ended: it has what the thread ran, what it sent to each thread, and what its set's row keeps, and is
-- what whole runs ask of the app. Its lines are those that the app lists.
--
-- And what settling the registry asks of its set: no channel stands, so its row can be had; the row is of the registry; of each
-- device the seat stands for the app's and the clients', who began fired, and it is known that the device was shut.
pub record LeavesLog (r : Run) (k : Known Letter Run) (b : App) (home : ℕ) (hops : List Hop) : Type 0 where
  pub log : Log
  pub began : log.lines.home ≡ home
  pub moved : log.lines.hops ≡ hops
  pub did : log.lines.did ≡ b.did
  pub called : log.lines.called ≡ b.called
  pub ran : log.ran ≡ k.ran
  pub sent : (t : ℕ) → t < length k.sent → list_at k.sent t ≡ to_thread t (all_sends log)
  pub row : log.row ≡ notes_of b.set.row.seats
  pub role : HasRole r.script k.thread log
  pub ended : Ended r.script k.thread log
  pub empty : IsEmpty b.set
  pub registry : latches b.set.row ≡ r.registry
  pub seats : (d : ℕ) → d < length r.registry → (seat_of b.set.row d).view.seats ≡ 1 + length r.script.clients
  pub fired : (d : ℕ) → d < length r.registry → (seat_of b.set.row d).view.begun ≤ (seat_of b.set.row d).view.fired
  pub shut : (d : ℕ) → d < length r.registry → 1 ≤ (seat_of b.set.row d).view.found + (seat_of b.set.row d).view.begun
