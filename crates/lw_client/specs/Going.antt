-- What each part of a call keeps.
use Rattle.std.specs.Prelude.{ℕ, ◌≡◌, ◌+◌, ◌≤◌, length, Some}
use Rattle.lw_model.specs.Threads.{thread_count}
use Rattle.lw_poller.specs.Pollers.{times}
use Rattle.lw_thread.specs.Acts.{AllFit}
use Rattle.lw_thread.specs.Calls.{Adds}
use Rattle.lw_mail.specs.Runs.{Run}
use Rattle.lw_mail.specs.Fitting.{fits_mail}
use Rattle.lw_client.specs.Clients.{IsSound, AreLive}
use Rattle.lw_client.specs.Doing.{State}

-- a client in a call is sound with the pollers of its acts, which are those of a thread of the run
pub record IsWell (r : Run) (s : State) : Type 0 where
  pub sound : IsSound r s.body
  pub pollers : AreLive (λ n. times n s.acts.pollers) s.body.stage s.body.waits
  pub threads : s.acts.threads ≡ thread_count r.script

-- how many lines it has listed
abbrev pub lines_of : State → ℕ
lines_of s = length s.body.did + length s.body.called

-- it stays well, what it asks for fits its receivers and comes behind what was asked for before, and lines are listed behind others
pub record Goes (s t : State) : Type 0 where
  pub well : (r : Run) → IsWell r s → IsWell r t
  pub fits : (r : Run) → IsWell r s → AllFit fits_mail (Some r) s.acts.pending → AllFit fits_mail (Some r) t.acts.pending
  pub adds : Adds s.acts t.acts
  pub thread : t.body.thread ≡ s.body.thread
  pub lines : lines_of s ≤ lines_of t
  pub sends : length s.acts.pending ≤ length t.acts.pending

-- and nothing is asked for without a line
pub record Lists (s t : State) : Type 0 where
  pub goes : Goes s t
  pub with_line : lines_of t ≡ lines_of s → length t.acts.pending ≡ length s.acts.pending
