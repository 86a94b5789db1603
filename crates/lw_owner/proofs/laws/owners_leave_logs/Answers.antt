use Rattle.lw_owner.proofs.Leaving.{leaves_log}
use Rattle.lw_owner.proofs.laws.owners_leave_logs.Goals as goal

pub returns : goal.returns
returns c = leaves_log
