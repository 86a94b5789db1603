use Rattle.lw_pool.proofs.Steps.{takes, counts}
use Rattle.lw_pool.proofs.pass.draw.Goals as goal

pub pop_as-requires-clause-rule : goal.pop_as-requires-clause-rule
pop_as-requires-clause-rule g c = (takes _ _ _ c.requires.user, counts _ _ _ c.requires.user)
