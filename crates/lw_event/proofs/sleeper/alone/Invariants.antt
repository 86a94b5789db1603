use Rattle.lw_event.specs.Sleepers.{AreAlone}
use Rattle.lw_event.proofs.sleeper.alone.Given as goal

abbrev pub invariant-loop-reactor : goal.invariant-loop-reactor
invariant-loop-reactor l = AreAlone l.reactor l.sleepers.items
