use Rattle.std.proofs.Common.{rules, ◌≡◌, ◌≤◌, sym, subst}
use Rattle.lw_latch.specs.DeviceWord.{idle_view}
use Rattle.lw_latch.specs.DeviceEnds.{SeatEnd}
use Rattle.lw_latch.proofs.DeviceDealing.{splits}
use Rattle.lw_latch.proofs.device.DeviceSeat.split.Goals as goal

pub split_seat-seat-requires : goal.split_seat-seat-requires
split_seat-seat-requires c = (search rules, search rules, splits _ _ _ (subst (λ (e : SeatEnd). 2 ≤ e.view.seats) (sym c.self.view_is) c.requires.some) (subst (λ (e : SeatEnd). e.view ≡ idle_view e.latch.seats e.view.seats) (sym c.self.view_is) c.requires.new))
