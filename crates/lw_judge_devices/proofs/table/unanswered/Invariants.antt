use Rattle.std.proofs.Common.{◌≡◌, None, replicate}
use Rattle.lw_judge_devices.proofs.table.unanswered.Given as goal

abbrev pub invariant-loop : goal.invariant-loop
invariant-loop l = l.answers.items ≡ replicate l.counter None
