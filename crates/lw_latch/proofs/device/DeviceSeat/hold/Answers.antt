use Rattle.std.proofs.Common.{rules, ap, ◌∙◌}
use Rattle.lw_latch.specs.DeviceEnds.{SeatEnd}
use Rattle.lw_latch.proofs.DeviceSteps.{holds, lets_go}
use Rattle.lw_latch.proofs.device.DeviceSeat.hold.Goals as goal

pub fetch_add-found-requires : goal.fetch_add-found-requires
fetch_add-found-requires c = (search rules, search rules, holds _ _ _ _ c.self.invariant.some_seat (ap (λ (e : SeatEnd). e.view.visit) c.self.view_is ∙ c.requires) c.self.invariant.no_leaving)

pub fetch_sub-requires : goal.fetch_sub-requires
fetch_sub-requires c = (search rules, search rules, lets_go _ _ _ _ (ap (λ m. m.0.leaving) (c.fetch_add-found.ensures.2.shut c.if-found-eq0.false)))
