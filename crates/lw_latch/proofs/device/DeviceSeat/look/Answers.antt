use Rattle.std.proofs.Common.{rules}
use Rattle.lw_latch.proofs.DeviceSteps.{looks}
use Rattle.lw_latch.proofs.device.DeviceSeat.look.Goals as goal

pub load-found-requires : goal.load-found-requires
load-found-requires c = (search rules, search rules, looks _ _ _ _ c.self.invariant.some_seat)
