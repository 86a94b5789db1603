use Rattle.std.proofs.Common.{rules, subst}
use Rattle.lw_device.specs.Rows.{AreAllRows}
use Rattle.lw_device_tests.proofs.Alone.{alone}
use Rattle.lw_device_tests.proofs.devices.settle_one.Goals as goal

pub settle_devices-requires : goal.settle_devices-requires
settle_devices-requires c = subst AreAllRows (search rules) (alone c.args.row c.requires.seat c.requires.all c.requires.fired)
