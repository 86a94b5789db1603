use Rattle.std.proofs.Common.{◌≡◌, ◌+◌, ◌≤◌}
use Rattle.lw_pool_tests.proofs.pools.take_and_give_back.Given as goal

abbrev pub invariant-loop : goal.invariant-loop
invariant-loop g l =
    (l.pass.pool ≡ l.initial.pass.pool)
    × (l.pass.number ≡ l.initial.pass.number)
    × (l.pass.small.taken ≡ l.pass.small.given)
    × (l.pass.small.given ≤ l.counter)
    × (l.pass.large.taken ≡ 0)
    × (l.pass.large.given ≡ 0)
