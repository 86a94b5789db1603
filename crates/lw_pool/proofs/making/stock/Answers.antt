use Rattle.std.proofs.Common.{rules, ap, arith}
use Rattle.lw_pool.specs.declared.queue.PoolView.{PoolView}
use Rattle.lw_pool.proofs.Steps.{stocks, counts}
use Rattle.lw_pool.proofs.making.stock.Goals as goal

pub push_as-requires-clause-rule : goal.push_as-requires-clause-rule
push_as-requires-clause-rule g c =
    let all = ap (λ (v : PoolView). v.parts) c.loop.invariant.1 in
    (stocks _ _ _ _ _ all (search rules), counts _ _ _ (omega arith))
