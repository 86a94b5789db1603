-- Runs of notes.
use Rattle.std.specs.Prelude.{ℕ, List}
use Rattle.thread_bench.specs.declared.note.Note.{Note}
use Rattle.lw_ring.specs.Calls.{NamedFrom}

-- the notes of this sender, numbered from the first on
abbrev pub AreNotes : ℕ → ℕ → List Note → Type 0
AreNotes sender first notes = NamedFrom (λ n. n) (λ n. n.tag) sender first notes
