use Rattle.std.proofs.Common.{◌≡◌, true}
use Rattle.lw_judge_messages.specs.RanSent.{runs_enough}
use Rattle.lw_judge_messages.proofs.ran.lacks_message.Given as goal

abbrev pub invariant-loop-sender : goal.invariant-loop-sender
invariant-loop-sender l = runs_enough l.sends l.sender l.thread l.ran ≡ true
