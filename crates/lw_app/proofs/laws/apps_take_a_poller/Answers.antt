use Rattle.lw_app.proofs.Leaving.{takes_a_poller}
use Rattle.lw_app.proofs.laws.apps_take_a_poller.Goals as goal

pub returns : goal.returns
returns c = takes_a_poller
