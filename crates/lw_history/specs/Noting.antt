-- What each line and each callback makes of the note that the own row keeps of its device.
use Rattle.std.specs.Prelude.{ℕ, ◌+◌, Bool, true, false, List, [], ◌∷◌, ◌++◌, slice_set}
use Rattle.lw_model.specs.declared.record.Answer.{Answer}
use Rattle.lw_model.specs.declared.record.Answer.TheVariants as answer
use Rattle.lw_whole.specs.Letters.{Note}
use Rattle.lw_whole.specs.Notes.{note_at}

-- a channel was given, with this ordinal
abbrev pub note_given : ℕ → Note → Note
note_given k n = record n { ordinals = n.ordinals ++ k ∷ [] }

-- thread t began to unregister the device, after so many channels had been given
abbrev pub note_began : ℕ → ℕ → Note → Note
note_began t k n = record n { begun = 1; count = k; began_by = t }

-- the device was found shut
abbrev pub note_found : Note → Note
note_found n = record n { found = n.found + 1 }

-- its callback came
abbrev pub note_fired : Note → Note
note_fired n = record n { fired = n.fired + 1 }

-- thread t listed this answer of the device
abbrev pub note_after : ℕ → Answer → Note → Note
note_after t (answer.Given k) n = note_given k n
note_after t (answer.Began k) n = note_began t k n
note_after t answer.Shut n = note_found n
note_after t answer.Already n = note_found n
note_after t _ n = n

-- whether an answer leaves something in the note
abbrev pub is_noted : Answer → Bool
is_noted (answer.Given k) = true
is_noted (answer.Began k) = true
is_noted answer.Shut = true
is_noted answer.Already = true
is_noted _ = false

-- a row with another note of one device
abbrev pub with_note : List Note → ℕ → (Note → Note) → List Note
with_note own d change = slice_set own d (change (note_at own d))
