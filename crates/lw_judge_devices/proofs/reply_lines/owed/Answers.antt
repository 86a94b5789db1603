use Rattle.std.proofs.Common.{arith}
use Rattle.lw_judge_devices.proofs.OwedImages.{owes_all}
use Rattle.lw_judge_devices.proofs.reply_lines.owed.Goals as goal

pub returns : goal.returns
returns c = owes_all c.args.of.now c.loop-device.device c.loop-device.owed (omega arith) c.loop-device.invariant
