use Rattle.lw_event.proofs.Equipped.{AreEquipped}
use Rattle.lw_event.proofs.sleeper.sleepers.Given as goal

abbrev pub invariant-loop-reactor : goal.invariant-loop-reactor
invariant-loop-reactor l = AreEquipped l.initial.sleepers.items l.sleepers.items l.reactor
