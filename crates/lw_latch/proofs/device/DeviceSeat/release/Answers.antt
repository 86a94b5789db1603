use Rattle.std.proofs.Common.{rules, ap, ◌∙◌}
use Rattle.lw_latch.specs.DeviceEnds.{SeatEnd}
use Rattle.lw_latch.proofs.DeviceSteps.{releases}
use Rattle.lw_latch.proofs.device.DeviceSeat.release.Goals as goal

pub fetch_sub-requires : goal.fetch_sub-requires
fetch_sub-requires c = (search rules, search rules, releases _ _ _ _ (ap (λ (e : SeatEnd). e.view.channel) c.self.view_is ∙ c.requires))
