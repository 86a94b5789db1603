use Rattle.std.proofs.Common.{◌≡◌, ℕ, length, slice_get, Some}
use Rattle.lw_judge_devices.specs.declared.device.Device.{Device}
use Rattle.lw_judge_devices.proofs.DevicesSteps.{IsFresh}
use Rattle.lw_judge_devices.proofs.devices.Devices.new.Given as goal

abbrev pub invariant-loop : goal.invariant-loop
invariant-loop l = record {
  count : length l.all.items ≡ l.counter;
  each : (d : ℕ) (e : Device) → slice_get l.all.items d ≡ Some e → IsFresh e;
}
