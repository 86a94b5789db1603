use Rattle.std.proofs.Common.{rules}
use Rattle.lw_pool.proofs.Steps.{joins}
use Rattle.lw_pool.proofs.settling.take_in.Goals as goal

pub absorb-requires-clause-rule : goal.absorb-requires-clause-rule
absorb-requires-clause-rule c = joins _ _ _ _ _ (search rules)

pub absorb-requires-2-clause-rule : goal.absorb-requires-2-clause-rule
absorb-requires-2-clause-rule c = joins _ _ _ _ _ (search rules)
