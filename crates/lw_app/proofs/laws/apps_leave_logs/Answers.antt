use Rattle.lw_app.proofs.Leaving.{leaves_log}
use Rattle.lw_app.proofs.laws.apps_leave_logs.Goals as goal

pub returns : goal.returns
returns c = leaves_log
