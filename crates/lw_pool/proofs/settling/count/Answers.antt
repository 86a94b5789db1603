use Rattle.std.proofs.Common.{arith}
use Rattle.lw_pool.proofs.Steps.{counts}
use Rattle.lw_pool.proofs.settling.count.Goals as goal

pub len_as-requires-clause-rule : goal.len_as-requires-clause-rule
len_as-requires-clause-rule g c = counts _ _ _ (let a = c.requires.all in omega arith)
