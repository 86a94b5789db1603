use Rattle.std.proofs.Common.{◌≡◌, ◌≤◌, length, take}
use Rattle.std.specs.Prelude.{filter_map}
use Rattle.lw_model.specs.Lawful.{reply_op}
use Rattle.lw_judge_devices.proofs.reply_lines.count_replies.Given as goal

abbrev pub invariant-loop-tag : goal.invariant-loop-tag
invariant-loop-tag l = record {
  count : l.count ≡ length (filter_map reply_op (take l.tag-index l.ran));
  few : l.count ≤ l.tag-index;
}
