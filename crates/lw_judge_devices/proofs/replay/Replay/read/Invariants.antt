use Rattle.std.proofs.Common.{◌≡◌, ◌-◌, List, Option}
use Rattle.lw_model.specs.declared.script.Op.{Op}
use Rattle.lw_model.specs.Replay.{bytes_after}
use Rattle.lw_judge_devices.specs.Replayed.{IsAfter}
use Rattle.lw_judge_devices.proofs.replay.Replay.read.Given as goal

abbrev pub invariant-loop-block : goal.invariant-loop-block
invariant-loop-block l = (past : List (Option Op)) → IsAfter past l.self → l.bytes.items ≡ bytes_after l.self.block past l.start (l.block - l.start)
