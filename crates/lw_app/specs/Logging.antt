-- What the app keeps of its log while it runs.
use Rattle.std.specs.Prelude.{ℕ, ◌+◌, ◌≡◌, ◌<◌, true, List, length}
use Rattle.std.specs.List.{list_any}
use Rattle.lw_model.specs.declared.script.Script.{Script}
use Rattle.lw_model.specs.Threads.{is_on}
use Rattle.lw_model.specs.Holding.{says}
use Rattle.lw_model.specs.Answers.{is_done_of}
use Rattle.lw_model.specs.Devices.{is_began}
use Rattle.lw_thread.specs.Acts.{Known}
use Rattle.lw_whole.specs.Letters.{Letter, Note}
use Rattle.lw_whole.specs.Notes.{joined, rows_in}
use Rattle.lw_history.specs.Histories.{Event, runs_of, dids_of, calls_of, past_of, all_of}
use Rattle.lw_history.specs.Fitting.{AppFits, EachFits, ends_in}
use Rattle.lw_history.specs.Made.{AreMade}
use Rattle.lw_history.specs.Keeping.{KeepsRow}
use Rattle.lw_mail.specs.Runs.{Run}
use Rattle.lw_mail.specs.Saying.{notes_of}
use Rattle.lw_app.specs.declared.app.App.{App}
use Rattle.lw_app.specs.Apps.{flag_at}
use Rattle.std.specs.Prelude.{not}

-- The log: the history of the thread, in which n lines were listed and the last messages were sent m times. What it asked to send
-- was sent or is among these. Its lines are the history's; the notes that its own calls left, joined by those that each Done
-- brought, are those of the set's row; and a client's Done has come exactly where it was run.
pub record HasLog (s : Script) (n m : ℕ) (k : Known Letter Run) (unsent : List (ℕ × Letter)) (b : App) : Type 0 where
  pub history : List Event
  pub own : List Note
  pub ran : k.ran ≡ runs_of history
  pub sent : AreMade 0 k.sent unsent (all_of history)
  pub fits : EachFits (AppFits s) history
  pub did : b.did ≡ dids_of history
  pub called : b.called ≡ calls_of history
  pub lines : length (dids_of history) ≡ n
  pub ends : ends_in history ≡ m
  pub keeps : KeepsRow s 0 history own
  pub row : notes_of b.set.row.seats ≡ joined own (rows_in (runs_of history))
  pub came : (c : ℕ) → c < length s.clients → flag_at b.awaited c ≡ not (list_any (is_done_of (c + 1)) (past_of history))
  pub began : (d : ℕ) → flag_at b.owed d ≡ true → list_any (says (is_on s 0 d) is_began) (past_of history) ≡ true
