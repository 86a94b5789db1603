use Rattle.lw_sched.proofs.PlanSteps.{PlansSoFar}
use Rattle.lw_sched.proofs.planning.plan.Given as goal

abbrev pub invariant-loop-place : goal.invariant-loop-place
invariant-loop-place l = PlansSoFar l.limits l.reactors l.rows l.masks l.place l.planned.items l.orders.items
