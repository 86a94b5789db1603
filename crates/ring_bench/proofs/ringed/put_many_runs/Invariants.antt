use Rattle.std.proofs.Common.{◌≡◌}
use Rattle.ring_bench.proofs.ringed.put_many_runs.Given as goal

abbrev pub invariant-loop : goal.invariant-loop
invariant-loop g l = l.end.family ≡ l.initial.end.family
