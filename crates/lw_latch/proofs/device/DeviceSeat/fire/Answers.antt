use Rattle.std.proofs.Common.{rules, ◌≤◌, sym, subst, refl, arith}
use Rattle.lw_latch.specs.DeviceEnds.{SeatEnd}
use Rattle.lw_latch.proofs.DeviceEnding.{fires}
use Rattle.lw_latch.proofs.device.DeviceSeat.fire.Goals as goal

pub compare_exchange-seen-requires : goal.compare_exchange-seen-requires
compare_exchange-seen-requires c = (search rules, search rules, fires _ _ _ _ c.self.inside.given _ _ (subst (λ (e : SeatEnd). 1 ≤ e.view.begun) (sym c.self.view_is) c.requires.0) (omega arith) refl)
