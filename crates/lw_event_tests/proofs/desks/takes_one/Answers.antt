use Rattle.lw_event_tests.proofs.Ours.{ours_after, still_then}
use Rattle.lw_event_tests.proofs.desks.takes_one.Goals as goal

pub returns-in_err-hand_out : goal.returns-in_err-hand_out
returns-in_err-hand_out g c = ours_after c.args.desks.now.items c.args.by c.index_mut-desk.result.now c.hand_out.new.desk c.requires.ours c.requires.by c.index_mut-desk.ensures.value c.hand_out.ensures.still

pub returns : goal.returns
returns g c =
    let taken = still_then c.index_mut-desk.result.now c.hand_out.new.desk c.take-count.new.self c.hand_out.ensures.still c.take-count.ensures.still in
    let still = still_then c.index_mut-desk.result.now c.take-count.new.self c.next.new.self taken c.next.ensures.still in
    ours_after c.args.desks.now.items c.args.by c.index_mut-desk.result.now c.next.new.self c.requires.ours c.requires.by c.index_mut-desk.ensures.value still
