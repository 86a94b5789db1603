use Rattle.lw_event_tests.specs.Three.{AreOurs}
use Rattle.lw_event_tests.proofs.desks.sends_many.Given as goal

abbrev pub invariant-loop-thread : goal.invariant-loop-thread
invariant-loop-thread g l = AreOurs l.desks.items
