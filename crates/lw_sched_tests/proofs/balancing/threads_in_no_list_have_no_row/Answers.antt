use Rattle.std.proofs.Common.{ap, arith}
use Rattle.lw_place.specs.PlaceSeats.{ThreadEnd}
use Rattle.lw_sched_tests.proofs.GoingOn.{begins}
use Rattle.lw_sched_tests.proofs.balancing.threads_in_no_list_have_no_row.Goals as goal

pub go_on-requires : goal.go_on-requires
go_on-requires g c = begins 0 10 _ _ _ c.in_ok-balancer.balancer c.is_due.new.self c.in_ok-first.desk c.in_ok-balancer.ensures c.is_due.ensures.kept c.in_ok-first.ensures.counts (omega arith)

-- It starts held by reactor 1,
pub start-requires : goal.start-requires
start-requires g c = (1, ap (λ (t : ThreadEnd). t.place) c.in_ok-first.ensures.second)

-- and is in its list from then on.
pub end-requires : goal.end-requires
end-requires g c = (1, ap (λ (t : ThreadEnd). t.place) (c.start.ensures 1 (ap (λ (t : ThreadEnd). t.place) c.in_ok-first.ensures.second)))
