use Rattle.lw_history.proofs.Clients.{clients_leave_logs}
use Rattle.lw_history.proofs.laws.clients_leave_logs.Goals as goal

pub returns : goal.returns
returns c = clients_leave_logs
