use Rattle.std.proofs.Common.{arith}
use Rattle.lw_sched_tests.proofs.GoingOn.{begins}
use Rattle.lw_sched_tests.proofs.balancing.rows_have_the_ticks_since_the_round_before.Goals as goal

pub go_on-requires : goal.go_on-requires
go_on-requires g c = begins 100 110 _ _ _ c.in_ok-balancer.balancer c.is_due.new.self c.in_ok-desk.desk c.in_ok-balancer.ensures c.is_due.ensures.kept c.in_ok-desk.ensures.counts (omega arith)
