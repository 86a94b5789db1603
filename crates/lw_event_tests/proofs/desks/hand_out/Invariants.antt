use Rattle.std.proofs.Common.{length}
use Rattle.lw_event.specs.Desks.{IsStill}
use Rattle.lw_event_tests.proofs.desks.hand_out.Given as goal

abbrev pub invariant-loop-event : goal.invariant-loop-event
invariant-loop-event l = IsStill l.initial.desk l.desk

abbrev pub decreases-loop-event : goal.decreases-loop-event
decreases-loop-event l = length l.desk.batch
