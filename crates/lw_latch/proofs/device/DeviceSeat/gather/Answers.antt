use Rattle.std.proofs.Common.{rules}
use Rattle.lw_latch.proofs.DeviceDealing.{joins}
use Rattle.lw_latch.proofs.device.DeviceSeat.gather.Goals as goal

pub join_seat-requires : goal.join_seat-requires
join_seat-requires c = (search rules, search rules, search rules, search rules, joins _ _ _ _ _ c.self.invariant.some_seat c.other.invariant.some_seat)
