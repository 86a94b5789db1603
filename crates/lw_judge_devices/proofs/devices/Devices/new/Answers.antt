use Rattle.std.proofs.Common.{arith}
use Rattle.lw_judge_devices.proofs.DevicesSteps.{fresh_devices}
use Rattle.lw_judge_devices.proofs.devices.Devices.new.Goals as goal

pub returns : goal.returns
returns c = λ r count. fresh_devices (record { devices = c.loop.all }) c.loop.invariant.each r (omega arith)
