use Rattle.std.proofs.Common.{◌≤◌, length}
use Rattle.device_bench.proofs.plain.run.Given as goal

abbrev pub invariant-loop : goal.invariant-loop
invariant-loop g l = 1 ≤ length l.adders.items
