use Rattle.std.proofs.Common.{rules, ap, ◌∙◌}
use Rattle.lw_latch.proofs.RingSteps.{joins}
use Rattle.lw_latch.proofs.ring.LatchRecv.take_in.Goals as goal

pub join_seat-requires : goal.join_seat-requires
join_seat-requires c = (search rules, search rules, search rules, search rules, joins _ _ _ _ c.self.invariant.view.outside (ap (λ e. e.view.inside) c.other.view_is ∙ c.requires.outside))
