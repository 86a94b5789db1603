use Rattle.lw_device.specs.Rows.{AreNewRows}
use Rattle.lw_device.proofs.making.devices.Given as goal

abbrev pub invariant-loop : goal.invariant-loop
invariant-loop l = AreNewRows l.counter l.threads l.rows.items
