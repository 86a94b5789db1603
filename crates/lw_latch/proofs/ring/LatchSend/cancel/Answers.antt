use Rattle.std.proofs.Common.{rules, ap, ◌∙◌}
use Rattle.lw_latch.proofs.RingSteps.{leaves}
use Rattle.lw_latch.proofs.ring.LatchSend.cancel.Goals as goal

pub fetch_sub-requires : goal.fetch_sub-requires
fetch_sub-requires c = (search rules, search rules, leaves _ _ _ (ap (λ e. e.view.inside) c.self.view_is ∙ c.requires))
