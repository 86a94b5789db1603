-- What an owner leaves behind when its thread ends.
use Rattle.std.specs.Prelude.{ℕ, ◌≡◌, ◌<◌, List, length}
use Rattle.lw_base.specs.Letters.{list_at}
use Rattle.lw_base.specs.declared.moves.Hop.{Hop}
use Rattle.lw_model.specs.declared.script.Script.{Script}
use Rattle.lw_model.specs.Sent.{to_thread}
use Rattle.lw_thread.specs.Acts.{Known}
use Rattle.lw_whole.specs.Letters.{Letter}
use Rattle.lw_whole.specs.Logs.{Log, all_sends}
use Rattle.lw_whole.specs.Threads.{Ended, HasRole}
use Rattle.lw_mail.specs.Runs.{Run}
use Rattle.lw_mail.specs.Saying.{notes_of}
use Rattle.lw_owner.specs.declared.owner.Owner.{Owner}

-- the log of a thread that ended: it has what the thread ran, what it sent to each thread, and what its set's row keeps, and is
-- what whole runs ask of an owner
pub record LeavesLog (s : Script) (k : Known Letter Run) (b : Owner) (home : ℕ) (hops : List Hop) : Type 0 where
  pub log : Log
  pub began : log.lines.home ≡ home
  pub moved : log.lines.hops ≡ hops
  pub ran : log.ran ≡ k.ran
  pub sent : (t : ℕ) → t < length k.sent → list_at k.sent t ≡ to_thread t (all_sends log)
  pub row : log.row ≡ notes_of b.set.row.seats
  pub role : HasRole s k.thread log
  pub ended : Ended s k.thread log
