use Rattle.std.proofs.Common.{rules, ap, ◌∙◌, subst, sym, ◌≤◌}
use Rattle.lw_place.specs.PlaceSeats.{BundleEnd}
use Rattle.lw_place.proofs.Dealing.{deals_desk}
use Rattle.lw_place.proofs.bundle.Bundle.deal_desk.Goals as goal

pub split_seat-seat-requires : goal.split_seat-seat-requires
split_seat-seat-requires c = (search rules, search rules, deals_desk _ _ _ (subst (λ (e : BundleEnd). 1 ≤ e.view.desks) (sym c.self.view_is) c.requires.some) (ap (λ (e : BundleEnd). e.view.retired) c.self.view_is ∙ c.requires.new.0) (ap (λ (e : BundleEnd). e.view.halted) c.self.view_is ∙ c.requires.new.1))
