use Rattle.std.proofs.Common.{ap, ◌∙◌}
use Rattle.lw_event_tests.proofs.Roused.{wakers_of, wakes_still}
use Rattle.lw_event_tests.proofs.sleeping.answer_often.Goals as goal

pub loop-preserved : goal.loop-preserved
loop-preserved g c = wakes_still c.args.other c.sleep.new.self c.wake.new.self c.wake.ensures ∙ ap wakers_of c.sleep.ensures ∙ c.loop.invariant
