use Rattle.lw_history.proofs.SentLogs.{client_sends_are_the_logs, app_sends_are_the_logs}
use Rattle.lw_history.proofs.laws.sends_are_the_logs.Goals as goal

pub returns-clause-client : goal.returns-clause-client
returns-clause-client c = client_sends_are_the_logs

pub returns-clause-app : goal.returns-clause-app
returns-clause-app c = app_sends_are_the_logs
