use Rattle.std.proofs.Common.{rules, ap, ◌∙◌}
use Rattle.lw_latch.specs.DeviceEnds.{SeatEnd}
use Rattle.lw_latch.proofs.DeviceSteps.{unholds}
use Rattle.lw_latch.proofs.device.DeviceSeat.unhold.Goals as goal

pub fetch_sub-requires : goal.fetch_sub-requires
fetch_sub-requires c = (search rules, search rules, unholds _ _ _ _ (ap (λ (e : SeatEnd). e.view.visit) c.self.view_is ∙ c.requires))
