use Rattle.std.proofs.Common.{◌≡◌, ◌<◌, ℕ, Some, true, slice_get}
use Rattle.lw_model.specs.Devices.{device_at}
use Rattle.lw_judge_devices.specs.declared.device.Device.{Device}
use Rattle.lw_judge_devices.specs.DeviceTold.{device_holds}
use Rattle.lw_judge_devices.proofs.devices.Devices.rule.Given as goal

abbrev pub invariant-loop-device : goal.invariant-loop-device
invariant-loop-device l = (d : ℕ) (e : Device) → d < l.device → slice_get l.self.devices.items d ≡ Some e → device_holds e (device_at l.of d) ≡ true
