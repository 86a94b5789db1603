use Rattle.std.proofs.Common.{rules, ap, ◌∙◌, arith}
use Rattle.lw_latch.specs.RingEnds.{RingEnd}
use Rattle.lw_latch.proofs.RingSteps.{finishes}
use Rattle.lw_latch.proofs.ring.LatchSend.finish.Goals as goal

pub fetch_add-requires : goal.fetch_add-requires
fetch_add-requires c = (search rules, search rules, finishes _ _ _ c.args.count _ c.self.invariant.view (ap (λ e. e.view.inside) c.self.view_is ∙ c.requires.inside) c.requires.some (let e = ap (λ (e : RingEnd). e.view.finished) c.self.view_is in let h = c.requires.room in omega arith) (let h = c.requires.some in omega arith))
