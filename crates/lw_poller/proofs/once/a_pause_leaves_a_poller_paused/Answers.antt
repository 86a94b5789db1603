use Rattle.lw_poller.proofs.Pausing.{left_paused}
use Rattle.lw_poller.proofs.once.a_pause_leaves_a_poller_paused.Goals as goal

pub returns : goal.returns
returns c s t number kept pauses = left_paused number s kept t pauses
