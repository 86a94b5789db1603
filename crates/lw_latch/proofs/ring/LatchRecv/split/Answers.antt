use Rattle.std.proofs.Common.{rules, ap, ◌∙◌, arith}
use Rattle.lw_latch.specs.RingEnds.{RingEnd}
use Rattle.lw_latch.proofs.RingSteps.{splits}
use Rattle.lw_latch.proofs.ring.LatchRecv.split.Goals as goal

pub split_seat-seat-requires : goal.split_seat-seat-requires
split_seat-seat-requires c = (search rules, search rules, splits _ _ (let e = ap (λ (e : RingEnd). e.view.parts) c.self.view_is in let h = c.requires.0 in omega arith) c.self.invariant.view.outside (ap (λ e. e.view.finished) c.self.view_is ∙ c.requires.1))
