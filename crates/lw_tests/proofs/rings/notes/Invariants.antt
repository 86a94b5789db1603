use Rattle.std.proofs.Common.{◌≡◌, length}
use Rattle.lw_ring.specs.Calls.{NamedFrom}
use Rattle.lw_tests.proofs.rings.notes.Given as goal

abbrev pub invariant-loop-k : goal.invariant-loop-k
invariant-loop-k l = (length l.run.items ≡ l.k) × NamedFrom (λ n. n) (λ n. n.tag) l.sender l.first l.run.items
