use Rattle.std.proofs.Common.{rules, ap, ◌∙◌}
use Rattle.lw_latch.proofs.RingSteps.{enters, leaves}
use Rattle.lw_latch.proofs.ring.LatchSend.enter.Goals as goal

pub fetch_add-found-requires : goal.fetch_add-found-requires
fetch_add-found-requires c = (search rules, search rules, enters _ _ _ c.self.invariant.view (ap (λ e. e.view.inside) c.self.view_is ∙ c.requires))

pub fetch_sub-requires : goal.fetch_sub-requires
fetch_sub-requires c = (search rules, search rules, leaves _ _ _ (ap (λ m. m.0.inside) c.fetch_add-found.ensures.2.counts))
