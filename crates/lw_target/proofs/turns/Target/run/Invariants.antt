use Rattle.lw_target.specs.Turns.{Turned, work}
use Rattle.lw_target.proofs.turns.Target.run.Given as goal

abbrev pub invariant-loop : goal.invariant-loop
invariant-loop l = Turned l.initial.self l.self 0

abbrev pub decreases-loop : goal.decreases-loop
decreases-loop l = work l.self
