-- The parts of logs that are worked out by hand.
use Rattle.std.specs.Prelude.{ℕ, List, [], ◌∷◌}
use Rattle.lw_base.specs.declared.message.What.{What}
use Rattle.lw_base.specs.declared.message.What.TheVariants as what
use Rattle.lw_model.specs.declared.record.ThreadRecord.{ThreadRecord}
use Rattle.lw_model.proofs.Records.{message}
use Rattle.lw_whole.specs.Letters.{Letter, Load, nothing, row, Note}
use Rattle.lw_whole.specs.Logs.{Log}
use Rattle.lw_whole.specs.Notes.{idle, joined, rows_in}

abbrev pub letter : ℕ → ℕ → What → Load → Letter
letter sender number w load = record { tag = message sender number w; load = load }

abbrev pub plain : ℕ → ℕ → What → Letter
plain sender number w = letter sender number w nothing

-- a client's Done with its row
abbrev pub done_of : ℕ → ℕ → List Note → Letter
done_of c number notes = letter c number what.Done (row notes)

-- a row that was given these, and one that began, after so many were given, and fired
abbrev pub given : List ℕ → Note
given ordinals = record idle { ordinals = ordinals }

abbrev pub unregistered : ℕ → ℕ → Note
unregistered count thread = record idle { begun = 1; count = count; began_by = thread; fired = 1 }

-- a row that found the device shut
abbrev pub refused : ℕ → Note
refused times = record idle { found = times }

abbrev pub owner_log : ThreadRecord → List Letter → List (List (ℕ × Letter)) → List Note → Log
owner_log lines ran sends notes = record { lines = lines; ran = ran; sends = sends; last = []; stood = []; own = notes; row = notes }

-- a client's last message is its Done, with its row
abbrev pub client_log : ℕ → ℕ → ThreadRecord → List Letter → List (List (ℕ × Letter)) → List ℕ → List Note → Log
client_log c number lines ran sends stood notes = record { lines = lines; ran = ran; sends = sends; last = (0, done_of c number notes) ∷ []; stood = stood; own = notes; row = [] }

-- the app's row takes in those that came
abbrev pub app_log_of : ThreadRecord → List Letter → List (List (ℕ × Letter)) → List (ℕ × Letter) → List ℕ → List Note → Log
app_log_of lines ran sends last stood own = record { lines = lines; ran = ran; sends = sends; last = last; stood = stood; own = own; row = joined own (rows_in ran) }
