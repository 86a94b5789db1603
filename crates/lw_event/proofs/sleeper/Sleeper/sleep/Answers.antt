use Rattle.lw_event.proofs.Waking.{sleeps}
use Rattle.lw_event.proofs.sleeper.Sleeper.sleep.Goals as goal

pub park_as-requires-clause-rule : goal.park_as-requires-clause-rule
park_as-requires-clause-rule g c = sleeps _ _
