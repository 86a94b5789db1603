use Rattle.lw_poller.proofs.OnePoll.{absent}
use Rattle.lw_poller.proofs.once.neither_added_nor_removed_pollers_are_called.Goals as goal

pub returns : goal.returns
returns c = absent
