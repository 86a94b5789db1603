use Rattle.std.proofs.Common.{◌≡◌}
use Rattle.lw_pool_tests.proofs.pools.take_one.Given as goal

abbrev pub invariant-loop : goal.invariant-loop
invariant-loop g l = l.pass ≡ l.initial.pass
