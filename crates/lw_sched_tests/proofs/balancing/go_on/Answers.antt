use Rattle.lw_sched_tests.proofs.GoingOn.{goes_on}
use Rattle.lw_sched_tests.proofs.balancing.go_on.Goals as goal

pub returns-clause-after : goal.returns-clause-after
returns-clause-after g c = goes_on c.args.now c.args.balancer.now c.is_due.new.self c.balance.new.self c.args.desk.now c.balance.new.desk c.requires c.is_due.ensures.kept c.balance.ensures.looked c.in_ok-balance.ensures.made
