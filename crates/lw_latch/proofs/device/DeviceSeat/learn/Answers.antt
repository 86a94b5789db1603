use Rattle.std.proofs.Common.{rules, ◌≡◌, ◌/◌, ◌%◌, eqb, true, false, length, sym, subst}
use Rattle.lw_latch.specs.DeviceWord.{fired_unit, given_unit}
use Rattle.lw_latch.specs.DeviceEnds.{SeatEnd, HasAllSeats}
use Rattle.lw_latch.proofs.DeviceTelling.{all_given, all_fired}
use Rattle.lw_latch.proofs.DeviceDealing.{learns}
use Rattle.lw_latch.proofs.device.DeviceSeat.learn.Goals as goal

pub load-word-requires : goal.load-word-requires
load-word-requires c = (search rules, search rules, learns _ _ _ _)

pub returns-clause-given : goal.returns-clause-given
returns-clause-given c =
    let t = c.load-word.ensures.2.all (c.self.invariant.some_seat, subst HasAllSeats (sym c.self.view_is) c.requires) in
    subst (λ (e : SeatEnd). c.load-word.result / given_unit ≡ length e.view.ordinals) c.self.view_is
    (all_given c.self.inside.seat.me.0 c.load-word.result c.self.invariant.no_backing t)

pub returns-clause-fired : goal.returns-clause-fired
returns-clause-fired c =
    let t = c.load-word.ensures.2.all (c.self.invariant.some_seat, subst HasAllSeats (sym c.self.view_is) c.requires) in
    subst (λ (e : SeatEnd). (eqb (c.load-word.result / fired_unit % 2) 1 ≡ true → e.view.fired ≡ 1) × (eqb (c.load-word.result / fired_unit % 2) 1 ≡ false → e.view.fired ≡ 0)) c.self.view_is
    (all_fired c.self.inside.seat.me.0 c.load-word.result c.self.invariant.no_backing t)
