use Rattle.lw_thread.proofs.Adding.{adds_active}
use Rattle.lw_thread_tests.proofs.plays.add_active.Goals as goal

pub returns : goal.returns
returns c =
    let a = c.add_active in
    adds_active a.result _ a.new.self a.ensures.number a.ensures.added a.ensures.same
