use Rattle.std.proofs.Common.{◌≡◌}
use Rattle.thread_bench.proofs.bare.put_many.Given as goal

abbrev pub invariant-loop : goal.invariant-loop
invariant-loop g l = l.end.family ≡ l.initial.end.family
