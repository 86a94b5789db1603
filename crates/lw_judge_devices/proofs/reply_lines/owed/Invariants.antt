use Rattle.lw_judge_devices.specs.Owed.{OwesBelow}
use Rattle.lw_judge_devices.proofs.reply_lines.owed.Given as goal

abbrev pub invariant-loop-device : goal.invariant-loop-device
invariant-loop-device l = OwesBelow l.of l.device l.owed
