use Rattle.std.proofs.Common.{rules, ◌≡◌, ◌+◌, ◌-◌, ◌<◌, sym, subst, arith, length}
use Rattle.lw_place.specs.declared.table.Stand.{Stand}
use Rattle.lw_place.specs.PlaceTable.{StandsAt}
use Rattle.lw_place.specs.PlaceSeats.{BundleEnd}
use Rattle.lw_place.proofs.Steps.{learns}
use Rattle.lw_place.proofs.bundle.Bundle.place.Goals as goal

pub load-word-requires : goal.load-word-requires
load-word-requires c = (search rules, search rules, learns _ _ _ _ c.args.thread c.self.invariant.knows.some_threads (subst (λ (e : BundleEnd). c.args.thread < e.view.threads) (sym c.self.view_is) c.requires.range))

pub returns-clause-its : goal.returns-clause-its
returns-clause-its c =
    let all : length c.self.inside.seat.me.0.stands ≡ c.self.inside.seat.me.0.threads = subst (λ (e : BundleEnd). length e.view.stands ≡ e.view.threads) (sym c.self.view_is) c.requires.all in
    let told = c.load-word.ensures.2.there all in
    let number : c.args.thread + 2 - 2 ≡ c.args.thread = omega arith in
    subst (λ (e : BundleEnd). StandsAt e.view.stands c.args.thread c.place_in.result) c.self.view_is
    (subst (λ (y : Stand). StandsAt c.self.inside.seat.me.0.stands y.thread y.place) (λ i. record { thread = number i; place = sym c.place_in.ensures i }) told)
