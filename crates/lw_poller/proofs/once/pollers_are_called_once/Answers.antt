use Rattle.lw_poller.proofs.OnePoll.{once}
use Rattle.lw_poller.proofs.once.pollers_are_called_once.Goals as goal

pub returns : goal.returns
returns c = once
