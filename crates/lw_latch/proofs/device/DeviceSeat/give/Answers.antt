use Rattle.std.proofs.Common.{rules, ◌<◌, ap, sym, subst, ◌∙◌}
use Rattle.lw_latch.specs.DeviceWord.{most_gives}
use Rattle.lw_latch.specs.DeviceEnds.{SeatEnd}
use Rattle.lw_latch.proofs.DeviceSteps.{gives, takes_back}
use Rattle.lw_latch.proofs.device.DeviceSeat.give.Goals as goal

pub fetch_add-before-requires : goal.fetch_add-before-requires
fetch_add-before-requires c = (search rules, search rules, gives _ _ _ _ c.self.invariant.some_seat (ap (λ (e : SeatEnd). e.view.channel) c.self.view_is ∙ c.requires.channel) c.self.invariant.no_backing (subst (λ (e : SeatEnd). e.view.gives < most_gives) (sym c.self.view_is) c.requires.room))

pub fetch_sub-requires : goal.fetch_sub-requires
fetch_sub-requires c = (search rules, search rules, takes_back _ _ _ _ (ap (λ m. m.0.backing) (c.fetch_add-before.ensures.2.shut c.if-before-eq0.false)))
