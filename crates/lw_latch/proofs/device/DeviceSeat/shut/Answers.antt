use Rattle.std.proofs.Common.{rules, ◌≡◌, ◌/◌, length, sym, subst, ◌∙◌}
use Rattle.lw_latch.specs.DeviceWord.{given_unit}
use Rattle.lw_latch.specs.DeviceEnds.{SeatEnd, HasAllSeats}
use Rattle.lw_latch.proofs.DeviceTelling.{all_given}
use Rattle.lw_latch.proofs.DeviceEnding.{shuts}
use Rattle.lw_latch.proofs.device.DeviceSeat.shut.Goals as goal

pub fetch_or-found-requires : goal.fetch_or-found-requires
fetch_or-found-requires c = (search rules, search rules, shuts _ _ _ _ c.self.invariant.some_seat)

pub returns-clause-began : goal.returns-clause-began
returns-clause-began c given is =
    let t = c.fetch_or-found.ensures.2.began c.if-found-ne0.false in
    (t.often, search rules, search rules, search rules, search rules, search rules)

pub returns-clause-all_given : goal.returns-clause-all_given
returns-clause-all_given c given is all =
    let t = c.fetch_or-found.ensures.2.all (c.self.invariant.some_seat, subst HasAllSeats (sym c.self.view_is) all) in
    let told : given ≡ c.fetch_or-found.result / given_unit = search rules in
    told
    ∙ subst (λ (e : SeatEnd). c.fetch_or-found.result / given_unit ≡ length e.view.ordinals) c.self.view_is
    (all_given c.self.inside.seat.me.0 c.fetch_or-found.result c.self.invariant.no_backing t)
