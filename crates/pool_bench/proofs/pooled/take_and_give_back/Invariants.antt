use Rattle.std.proofs.Common.{◌≡◌, ◌≤◌}
use Rattle.pool_bench.proofs.pooled.take_and_give_back.Given as goal

abbrev pub invariant-loop : goal.invariant-loop
invariant-loop g l =
    (l.pass.small.taken ≡ l.pass.small.given)
    × (l.pass.small.given ≤ l.counter)
    × (l.pass.large.given ≡ 0)
