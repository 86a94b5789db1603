use Rattle.std.proofs.Common.{rules, subst}
use Rattle.lw_device.specs.Rows.{AreAllRows}
use Rattle.lw_device_tests.proofs.Alone.{found_shut}
use Rattle.lw_device_tests.proofs.devices.settle_two.Goals as goal

pub settle_devices-requires : goal.settle_devices-requires
settle_devices-requires c = subst AreAllRows (search rules) (found_shut c.args.finder c.args.other c.requires)
