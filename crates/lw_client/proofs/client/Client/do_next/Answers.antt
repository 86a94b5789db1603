use Rattle.lw_client.proofs.May.{may_do}
use Rattle.lw_client.proofs.client.Client.do_next.Goals as goal

pub do_task-requires : goal.do_task-requires
do_task-requires g c = record { may = may_do c.requires.well.0 (record { body = c.args.self.now; acts = c.args.acts.now }) c.in-Some.task c.requires.well.1 c.in-Some.ensures.some.0 c.in-Some.ensures.some.1 }
