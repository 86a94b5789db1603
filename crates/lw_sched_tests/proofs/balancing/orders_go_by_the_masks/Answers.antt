use Rattle.std.proofs.Common.{arith}
use Rattle.lw_sched_tests.proofs.GoingOn.{begins}
use Rattle.lw_sched_tests.proofs.balancing.orders_go_by_the_masks.Goals as goal

pub go_on-requires : goal.go_on-requires
go_on-requires g c = begins 0 10 2 1 _ c.in_ok-balancer.balancer c.is_due.new.self c.in_ok-desk.desk c.in_ok-balancer.ensures c.is_due.ensures.kept c.in_ok-desk.ensures.counts (omega arith)
