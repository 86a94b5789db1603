use Rattle.std.proofs.Common.{◌≡◌, flat_map}
use Rattle.std.specs.List.{range_with_len}
use Rattle.lw_model.specs.Verdict.{least_failing}
use Rattle.lw_judge_devices.proofs.RepliesLines.{reply_tests}
use Rattle.lw_judge_devices.proofs.reply_lines.replies.Given as goal

abbrev pub invariant-loop-client : goal.invariant-loop-client
invariant-loop-client l = l.least ≡ least_failing (flat_map (reply_tests l.of) (range_with_len 1 l.client))
