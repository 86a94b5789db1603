use Rattle.std.proofs.Common.{◌≡◌}
use Rattle.crossbeam_queue.specs.Passes.{view, IsPassOf}
use Rattle.lw_pool.specs.Sizes.{most_users}
use Rattle.lw_pool.specs.PoolRule.{new_view}
use Rattle.lw_pool.proofs.making.stock.Given as goal

abbrev pub invariant-loop : goal.invariant-loop
invariant-loop g l = IsPassOf l.queue l.pass × (view l.pass ≡ new_view most_users l.counter)
