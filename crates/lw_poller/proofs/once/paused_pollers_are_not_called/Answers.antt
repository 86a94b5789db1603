use Rattle.lw_poller.proofs.OnePoll.{not_resumed}
use Rattle.lw_poller.proofs.once.paused_pollers_are_not_called.Goals as goal

pub returns : goal.returns
returns c = not_resumed
