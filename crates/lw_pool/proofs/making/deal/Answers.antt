use Rattle.std.proofs.Common.{ap, arith}
use Rattle.lw_pool.specs.declared.queue.PoolView.{PoolView}
use Rattle.lw_pool.proofs.Steps.{deals}
use Rattle.lw_pool.proofs.making.deal.Goals as goal

pub another-requires-clause-rule : goal.another-requires-clause-rule
another-requires-clause-rule c = deals _ _ _ (let a = ap (λ (v : PoolView). v.parts) c.requires.small.1 in let b = c.requires.number in let d = c.requires.users in omega arith)

pub another-requires-2-clause-rule : goal.another-requires-2-clause-rule
another-requires-2-clause-rule c = deals _ _ _ (let a = ap (λ (v : PoolView). v.parts) c.requires.large.1 in let b = c.requires.number in let d = c.requires.users in omega arith)
