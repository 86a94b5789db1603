use Rattle.lw_history.proofs.Apps.{apps_leave_logs}
use Rattle.lw_history.proofs.laws.apps_leave_logs.Goals as goal

pub returns : goal.returns
returns c = apps_leave_logs
