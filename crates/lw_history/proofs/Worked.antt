-- Histories of one run, worked out by hand: the definitions can be met.
use Rattle.std.proofs.Common.{ℕ, ◌<◌, List, [], ◌∷◌, codes, zero, suc, refl, arith, inl}
use Rattle.std.proofs.lemmas.Bool.{false≢true}
use Rattle.lw_base.specs.declared.message.Mark.{Mark}
use Rattle.lw_base.specs.declared.message.What.TheVariants as what
use Rattle.lw_model.specs.declared.script.Script.{Script}
use Rattle.lw_model.specs.declared.script.Op.TheVariants as op
use Rattle.lw_model.specs.declared.record.Answer.TheVariants as answer
use Rattle.lw_model.proofs.Records.{image, client_of, did as line, called as call, mark}
use Rattle.lw_whole.specs.Letters.{Letter, marked, Note}
use Rattle.lw_whole.specs.Notes.{note_at, joined, rows_in}
use Rattle.lw_whole.proofs.Parts.{letter, plain, done_of, given, unregistered}
use Rattle.lw_history.specs.Histories.{Event, ran, did, called, ended, runs_of}
use Rattle.lw_history.specs.Fitting.{ClientFits, AppFits, EachFits}
use Rattle.lw_history.specs.Keeping.{KeepsNote}
use Rattle.lw_history.specs.Leaving.{ClientDone, AppDone}

-- one image, and a client that gets a channel, visits all threads that hold one, and puts it
abbrev script : Script
script = record { images = image 1 ∷ []; clients = client_of (codes "a") 1 (op.Get 0 ∷ op.Visit 0 ∷ op.Put 0 ∷ []) ∷ []; small = 1; large = 1 }

-- its visit on its way, unsent and as sender s sent it under number n
abbrev token : ℕ → ℕ → List ℕ → Letter
token s n ms = letter s n (what.Visit 1 1 0) (marked (marks ms))
  where
    marks : List ℕ → List Mark
    marks [] = []
    marks (m ∷ ms) = mark 1 m ∷ marks ms

abbrev own : List Note
own = given (0 ∷ []) ∷ []

abbrev client : List Event
client =
    (ended ((0, done_of 0 0 own) ∷ [])
    ∷ ran (plain 1 0 (what.PutSelf 0)) []
    ∷ did (line 2 3 answer.Closed) []
    ∷ did (line 2 2 answer.Deferred) ((1, plain 0 0 (what.PutSelf 0)) ∷ [])
    ∷ ran (letter 2 0 (what.Visited 1) (marked (mark 1 0 ∷ []))) []
    ∷ ran (token 0 0 []) ((2, token 0 0 (0 ∷ [])) ∷ [])
    ∷ did (line 0 1 answer.Started) ((0, token 0 0 []) ∷ [])
    ∷ did (line 0 0 (answer.Given 0)) []
    ∷ [])

-- the app's own row, and that with the client's
abbrev own_of_app : List Note
own_of_app = unregistered 1 0 ∷ []

abbrev app : List Event
app =
    (ended ((2, plain 0 0 what.Stop) ∷ [])
    ∷ called (call 2 0)
    ∷ did (line 2 0 (answer.Began 1)) []
    ∷ ran (done_of 1 1 own) []
    ∷ ran (token 1 0 []) ((1, token 0 0 []) ∷ [])
    ∷ [])

client_fits : EachFits (ClientFits script 1) client
client_fits = (
  refl,
  (
    record { sent = refl; spares = λ k d l j e m. absurd (omega (arith, m)) },
    (
      record { stands = record { at = refl; stays_shut = (refl, tt) }; fits = refl; sent = refl; spares = λ k d l j e m. absurd (omega (arith, m)) },
      (
        record { stands = record { at = refl; stays_shut = (refl, tt) }; fits = refl; sent = refl; spares = λ k d l j e m. absurd (omega (arith, m)) },
        (
          record { sent = refl; spares = λ k d l j e m. absurd (omega (arith, m)) },
          (
            record { sent = inl (record { above = omega arith; thread = omega arith; token = refl; carried = refl; passed = refl }); spares = λ k d l j e m. absurd (omega (arith, m)) },
            (
              record { stands = record { at = refl; stays_shut = (refl, tt) }; fits = refl; sent = inl (record { above = omega arith; thread = omega arith; token = refl; carried = refl; passed = refl }); spares = λ k d l j e m. absurd (omega (arith, m)) },
              (
                record { stands = record { at = refl; stays_shut = (refl, tt) }; fits = refl; sent = refl; spares = λ k d l j e m. absurd (omega (arith, m)) },
                tt,
              ),
            ),
          ),
        ),
      ),
    ),
  ),
)

client_notes : (d : ℕ) → d < 1 → KeepsNote script 1 d client (note_at own d)
client_notes zero l = record { ordinals = refl; found = λ e. absurd (false≢true e); begun = refl; began_by = λ e. absurd (omega (arith, e)); fired = refl }
client_notes (suc d) l = absurd (omega (arith, l))

pub client_done : ClientDone script 1 client own
client_done = record { client = refl; fits = client_fits; ends = refl; count = refl; keeps = record { devices = refl; notes = client_notes }; with_row = refl }

app_fits : EachFits (AppFits script) app
app_fits = (
  refl,
  (
    record { at = refl; began = refl; none_held = refl },
    (
      record { stands = record { at = refl; stays_shut = (refl, tt) }; fits = refl; knew = λ e. refl; sent = refl },
      (
        record { sent = refl; spares = λ k d l j e m. absurd (omega (arith, m)); no_reply = refl; no_results = refl },
        (
          record { sent = inl (record { above = omega arith; thread = omega arith; token = refl; carried = refl; passed = refl }); spares = λ k d l j e m. absurd (omega (arith, m)); no_reply = refl; no_results = refl },
          tt,
        ),
      ),
    ),
  ),
)

app_notes : (d : ℕ) → d < 1 → KeepsNote script 0 d app (note_at own_of_app d)
app_notes zero l = record { ordinals = refl; found = λ e. absurd (false≢true e); begun = refl; began_by = λ e. refl; fired = refl }
app_notes (suc d) l = absurd (omega (arith, l))

pub app_done : AppDone script app own_of_app (joined own_of_app (rows_in (runs_of app)))
app_done = record { fits = app_fits; ends = refl; count = refl; keeps = record { devices = refl; notes = app_notes }; row = refl }
