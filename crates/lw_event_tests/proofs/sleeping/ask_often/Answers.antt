use Rattle.std.proofs.Common.{ap, ◌∙◌}
use Rattle.lw_event_tests.proofs.Roused.{wakers_of, wakes_still}
use Rattle.lw_event_tests.proofs.sleeping.ask_often.Goals as goal

pub loop-preserved : goal.loop-preserved
loop-preserved g c = ap wakers_of c.sleep.ensures ∙ wakes_still c.args.other c.loop.own c.wake.new.self c.wake.ensures ∙ c.loop.invariant
