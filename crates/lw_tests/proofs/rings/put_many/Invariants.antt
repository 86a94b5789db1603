use Rattle.std.proofs.Common.{◌≡◌}
use Rattle.lw_tests.proofs.rings.put_many.Given as goal

abbrev pub invariant-loop-value : goal.invariant-loop-value
invariant-loop-value g l = l.end.family ≡ l.initial.end.family
