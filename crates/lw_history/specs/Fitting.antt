-- When a history is one that a client's or the app's thread may have: each event fits those before it.
use Rattle.std.specs.Prelude.{ℕ, ◌+◌, ◌≡◌, ◌≢◌, true, IsTrue, List, [], ◌∷◌, length, None, All, is_none}
use Rattle.std.specs.List.{list_all, list_any, AllByRecursion}
use Rattle.lw_base.specs.declared.message.What.TheVariants as what
use Rattle.lw_model.specs.declared.script.Script.{Script}
use Rattle.lw_model.specs.declared.step.Step.{Step}
use Rattle.lw_model.specs.declared.step.Step.TheVariants as step
use Rattle.lw_model.specs.declared.record.Did.{Did}
use Rattle.lw_model.specs.declared.record.Called.{Called}
use Rattle.lw_model.specs.Threads.{is_on, images}
use Rattle.lw_model.specs.Holding.{says, held}
use Rattle.lw_model.specs.Devices.{is_began}
use Rattle.lw_model.specs.Sent.{sent_last}
use Rattle.lw_whole.specs.Letters.{Letter}
use Rattle.lw_whole.specs.Logs.{addressed}
use Rattle.lw_whole.specs.Tokens.{load_behind, GoesOn}
use Rattle.lw_whole.specs.Sends.{SentByDid}
use Rattle.lw_whole.specs.Notes.{note_at, rows_in, knows_open}
use Rattle.lw_whole.specs.Lines.{client_line_fits, app_line_fits, stays_shut, reply_in, results_in}
use Rattle.lw_history.specs.Histories.{Event, ran, did, called, ended, runs_of, dids_of, past_of, last_of}

-- what a message that a client or the app ran, behind the steps of `past`, sends: a token goes on, and nothing else sends
abbrev pub SentByRun : Script → ℕ → List Step → Letter → List (ℕ × Letter) → Type 0
SentByRun s t past x now = elim x.tag.what [
  | what.Visit o k d ↦ GoesOn s (what.Visit o k d) (t + 1) (load_behind s t past (what.Visit o k d) x.load) now
  | what.Cast o k ↦ GoesOn s (what.Cast o k) (t + 1) (load_behind s t past (what.Cast o k) x.load) now
  | _ ↦ now ≡ []
]

-- a callback came: when so many messages had been run, where the thread had begun and held no channel of the device
pub record CallbackFits (s : Script) (t : ℕ) (before : List Event) (x : Called) : Type 0 where
  pub at : x.at ≡ length (runs_of before)
  pub began : list_any (says (is_on s t x.device) is_began) (past_of before) ≡ true
  pub none_held : is_none (held (is_on s t x.device) x.device (past_of before)) ≡ true

-- a line came when so many messages had been run, and what needs the device open isn't listed behind what told that it is shut
pub record LineStands (s : Script) (t : ℕ) (before : List Event) (x : Did) : Type 0 where
  pub at : x.at ≡ length (runs_of before)
  pub stays_shut : AllByRecursion (λ d. IsTrue (stays_shut s t d (past_of before) (step.Did (length (dids_of before)) x))) (images s)

-- what a thread sends behind its last messages goes to receivers to which those did not go
abbrev pub SparesLast : List (ℕ × Letter) → List (ℕ × Letter) → Type 0
SparesLast last now = All (λ p. All (λ q. q.0 ≢ p.0) last) now

-- a client ran a message
pub record ClientRunFits (s : Script) (t : ℕ) (before : List Event) (x : Letter) (now : List (ℕ × Letter)) : Type 0 where
  pub sent : SentByRun s t (past_of before) x now
  pub spares : SparesLast (last_of before) now

-- a client listed a line
pub record ClientLineFits (s : Script) (t : ℕ) (before : List Event) (x : Did) (now : List (ℕ × Letter)) : Type 0 where
  pub stands : LineStands s t before x
  pub fits : client_line_fits s t (past_of before) (step.Did (length (dids_of before)) x) ≡ true
  pub sent : SentByDid s t (past_of before) x now
  pub spares : SparesLast (last_of before) now

-- a client's events
abbrev pub ClientFits : Script → ℕ → List Event → Event → Type 0
ClientFits s t before (ran x now) = ClientRunFits s t before x now
ClientFits s t before (did x now) = ClientLineFits s t before x now
ClientFits s t before (called x) = CallbackFits s t before x
ClientFits s t before (ended now) = addressed now ≡ sent_last s t

-- the app ran a message, which brought neither a reply nor results
pub record AppRunFits (s : Script) (before : List Event) (x : Letter) (now : List (ℕ × Letter)) : Type 0 where
  pub sent : SentByRun s 0 (past_of before) x now
  pub spares : SparesLast (last_of before) now
  pub no_reply : reply_in x ≡ None
  pub no_results : results_in x ≡ None

-- the app listed a line: where it began to unregister a device, no row that it had taken in had found that device shut, or had
-- begun
pub record AppLineFits (s : Script) (before : List Event) (x : Did) (now : List (ℕ × Letter)) : Type 0 where
  pub stands : LineStands s 0 before x
  pub fits : app_line_fits s (past_of before) (step.Did (length (dids_of before)) x) ≡ true
  pub knew : is_began x.answer ≡ true → list_all (λ ns. knows_open (note_at ns x.op)) (rows_in (runs_of before)) ≡ true
  pub sent : now ≡ []

-- the app's events
abbrev pub AppFits : Script → List Event → Event → Type 0
AppFits s before (ran x now) = AppRunFits s before x now
AppFits s before (did x now) = AppLineFits s before x now
AppFits s before (called x) = CallbackFits s 0 before x
AppFits s before (ended now) = addressed now ≡ sent_last s 0

-- each event fits those before it
abbrev pub EachFits : (List Event → Event → Type 0) → List Event → Type 0
EachFits fits [] = Unit {0}
EachFits fits (e ∷ before) = fits before e × EachFits fits before

-- how often a thread sent its last messages
abbrev pub ends_in : List Event → ℕ
ends_in [] = 0
ends_in (ran x now ∷ before) = ends_in before
ends_in (did x now ∷ before) = ends_in before
ends_in (called x ∷ before) = ends_in before
ends_in (ended now ∷ before) = ends_in before + 1
