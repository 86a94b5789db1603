use Rattle.std.proofs.Common.{◌<◌, All, take}
use Rattle.lw_sched_tests.proofs.plans.are_there.Given as goal

abbrev pub invariant-loop-row : goal.invariant-loop-row
invariant-loop-row l = All (λ w. w.reactor < l.reactors) (take l.row-index l.rows)
