-- What is known of a thread that has ended, by its role.
use Rattle.std.specs.Prelude.{ℕ, ◌+◌, ◌≡◌, ◌==◌, true, false, List, [], length, map, zip, filter_map, None}
use Rattle.std.specs.List.{list_all, AllByRecursion, enumerate_from}
use Rattle.lw_model.specs.declared.script.Script.{Script}
use Rattle.lw_model.specs.ScriptRules.{rule_broken}
use Rattle.lw_model.specs.Printable.{has_role}
use Rattle.lw_model.specs.Threads.{thread_count, ops_of, is_client, images}
use Rattle.lw_model.specs.Answers.{ats_ascend}
use Rattle.lw_whole.specs.Logs.{Log, steps_with_past}
use Rattle.lw_whole.specs.Rings.{RingsSettled}
use Rattle.lw_whole.specs.Sends.{Sends}
use Rattle.lw_whole.specs.Notes.{RowFits, TookIn}
use Rattle.lw_whole.specs.Lines.{client_line_fits, app_line_fits, stays_shut, callback_stood, reply_in, results_in}

-- a client did all its ops and closed; it lists the replies and results that its messages brought; its row went with its Done
pub record ClientEnded (s : Script) (t : ℕ) (l : Log) : Type 0 where
  pub count : length l.lines.did ≡ length (ops_of s t) + 1
  pub fit : list_all (λ p. client_line_fits s t p.0 p.1) (steps_with_past l) ≡ true
  pub replies : l.lines.replies ≡ filter_map reply_in l.ran
  pub seen : l.lines.seen ≡ filter_map results_in l.ran
  pub row : l.row ≡ []

-- the app unregistered each device behind the Done of all clients, with their rows taken in
pub record AppEnded (s : Script) (l : Log) : Type 0 where
  pub count : length l.lines.did ≡ length s.images
  pub fit : list_all (λ p. app_line_fits s p.0 p.1) (steps_with_past l) ≡ true
  pub took_in : TookIn l

-- an owner lists nothing and keeps its row
pub record OwnerEnded (l : Log) : Type 0 where
  pub did : l.lines.did ≡ []
  pub row : l.row ≡ l.own

abbrev pub EndedAs : Script → ℕ → Log → Type 0
EndedAs s t l = elim (t == 0) [ true ↦ AppEnded s l | false ↦ elim (is_client s t) [ true ↦ ClientEnded s t l | false ↦ OwnerEnded l ] ]

-- any thread
pub record Ended (s : Script) (t : ℕ) (l : Log) : Type 0 where
  pub tags : map (λ x. x.tag) l.ran ≡ l.lines.ran
  pub sends : Sends s t l
  pub did_ats : ats_ascend (length l.lines.ran) (map (λ x. x.at) l.lines.did) ≡ true
  pub called_ats : ats_ascend (length l.lines.ran) (map (λ x. x.at) l.lines.called) ≡ true
  pub stood : length l.stood ≡ length l.lines.called
  pub callbacks : list_all (λ p. callback_stood s t l p.0 p.1) (zip l.stood l.lines.called) ≡ true
  pub stays_shut : AllByRecursion (λ d. list_all (λ p. stays_shut s t d p.0 p.1) (steps_with_past l) ≡ true) (images s)
  pub own_row : RowFits s t l
  pub role : EndedAs s t l

-- what a thread is, and that threads other than clients list no reply and no results
pub record HasRole (s : Script) (t : ℕ) (l : Log) : Type 0 where
  pub role : has_role (length s.clients) t l.lines.role ≡ true
  pub replies : is_client s t ≡ false → l.lines.replies ≡ []
  pub seen : is_client s t ≡ false → l.lines.seen ≡ []

-- all threads of a run of an accepted script, once they ended and their rings are settled
pub record AllEnded (s : Script) (logs : List Log) : Type 0 where
  pub accepted : rule_broken s ≡ None
  pub count : length logs ≡ thread_count s
  pub roles : AllByRecursion (λ p. HasRole s p.0 p.1) (enumerate_from 0 logs)
  pub each : AllByRecursion (λ p. Ended s p.0 p.1) (enumerate_from 0 logs)
  pub rings : RingsSettled logs
