use Rattle.std.proofs.Common.{arith}
use Rattle.lw_image.proofs.Filled.{filled_first, filled_more}
use Rattle.lw_image.proofs.fill.fill_with.Goals as goal

pub loop-done-init : goal.loop-done-init
loop-done-init c = filled_first _ _ _ c.requires (omega arith) c.copy_front-done.ensures.bytes

pub loop-done-preserved : goal.loop-done-preserved
loop-done-preserved c =
    filled_more _ _ _ _ _ c.loop-done.invariant c.loop-done-test.true c.repeat_front-done.auto.range
    c.repeat_front-done.ensures.count c.repeat_front-done.ensures.front c.repeat_front-done.ensures.behind

pub returns : goal.returns
returns c = λ k below. c.loop-done.invariant.bytes k (omega arith)
