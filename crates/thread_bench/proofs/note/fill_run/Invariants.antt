use Rattle.std.proofs.Common.{◌≡◌, length}
use Rattle.thread_bench.specs.Notes.{AreNotes}
use Rattle.thread_bench.proofs.note.fill_run.Given as goal

abbrev pub invariant-loop-k : goal.invariant-loop-k
invariant-loop-k l = (length l.run.items ≡ l.k) × AreNotes l.sender l.first l.run.items
