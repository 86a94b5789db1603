use Rattle.std.proofs.Common.{refl}
use Rattle.lw_owner.proofs.Beginning.{keeps_new}
use Rattle.lw_owner.proofs.owner.Owner.new.Goals as goal

pub returns-clause-lawful : goal.returns-clause-lawful
returns-clause-lawful c = λ run k own zeros family number ran threads none. keeps_new run k _ own zeros refl family number ran threads none
