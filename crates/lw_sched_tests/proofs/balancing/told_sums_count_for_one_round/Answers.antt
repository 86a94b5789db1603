use Rattle.std.proofs.Common.{◌∙◌, ap, arith}
use Rattle.lw_rounds.specs.Measures.{told_of}
use Rattle.lw_rounds.specs.Rounds.{BalancerEnd}
use Rattle.lw_sched_tests.proofs.GoingOn.{begins}
use Rattle.lw_sched_tests.proofs.balancing.told_sums_count_for_one_round.Goals as goal

pub go_on-requires : goal.go_on-requires
go_on-requires g c =
    let told = c.tell.ensures ∙ ap (λ (b : BalancerEnd). record b { meter = told_of 0 (record { busy = 5; idle = 4 }) b.meter }) c.in_ok-balancer.ensures in
    begins 0 10 _ _ _ c.tell.new.self c.is_due.new.self c.in_ok-desk.desk told c.is_due.ensures.kept c.in_ok-desk.ensures.counts (omega arith)
