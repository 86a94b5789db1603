use Rattle.lw_thread.proofs.Adding.{adds_timed}
use Rattle.lw_thread_tests.proofs.plays.add_timed.Goals as goal

pub returns : goal.returns
returns c =
    let a = c.add_timed in
    adds_timed c.args.now c.args.period a.result _ a.new.self a.ensures.number a.ensures.added a.ensures.same a.ensures.rest
