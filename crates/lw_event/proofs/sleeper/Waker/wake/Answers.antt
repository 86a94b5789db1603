use Rattle.lw_event.proofs.Waking.{wakes}
use Rattle.lw_event.proofs.sleeper.Waker.wake.Goals as goal

pub unpark_as-requires-clause-rule : goal.unpark_as-requires-clause-rule
unpark_as-requires-clause-rule c = wakes _ _
