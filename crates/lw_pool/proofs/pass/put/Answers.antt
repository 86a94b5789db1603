use Rattle.std.proofs.Common.{rules}
use Rattle.lw_pool.proofs.Steps.{gives, counts}
use Rattle.lw_pool.proofs.pass.put.Goals as goal

pub push_as-requires-clause-rule : goal.push_as-requires-clause-rule
push_as-requires-clause-rule g c = (gives _ _ _ _ _ c.requires.user c.requires.lent (search rules), counts _ _ _ c.requires.user)
