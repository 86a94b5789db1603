use Rattle.lw_event_tests.proofs.Ours.{ours_after}
use Rattle.lw_event_tests.proofs.desks.sends.Goals as goal

pub returns : goal.returns
returns g c = ours_after c.args.desks.now.items c.args.from c.index_mut.result.now c.send.new.self c.requires.ours c.requires.from c.index_mut.ensures.value c.send.ensures.still
