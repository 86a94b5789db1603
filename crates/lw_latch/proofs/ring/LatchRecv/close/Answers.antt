use Rattle.std.proofs.Common.{rules, ap, ◌∙◌, refl}
use Rattle.lw_latch.proofs.RingSteps.{closes}
use Rattle.lw_latch.proofs.ring.LatchRecv.close.Goals as goal

pub compare_exchange-seen-requires : goal.compare_exchange-seen-requires
compare_exchange-seen-requires c = (search rules, search rules, closes _ _ _ c.args.taken _ _ c.self.invariant.view (ap (λ e. e.view.closed) c.self.view_is ∙ c.requires.not_closed) refl refl)
