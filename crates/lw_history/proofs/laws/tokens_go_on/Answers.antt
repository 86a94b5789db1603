use Rattle.lw_history.proofs.Passing.{client_tokens_go_on, app_tokens_go_on}
use Rattle.lw_history.proofs.laws.tokens_go_on.Goals as goal

pub returns-clause-client : goal.returns-clause-client
returns-clause-client c = client_tokens_go_on

pub returns-clause-app : goal.returns-clause-app
returns-clause-app c = app_tokens_go_on
