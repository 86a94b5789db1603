use Rattle.std.proofs.Common.{◌≡◌, drop}
use Rattle.lw_model.specs.Same.{is_same_reply}
use Rattle.lw_judge_threads.specs.Firsts.{first_unlike}
use Rattle.lw_judge_devices.specs.OwedLines.{replies_in}
use Rattle.lw_judge_devices.proofs.reply_lines.first_unowed.Given as goal

abbrev pub invariant-loop-tag : goal.invariant-loop-tag
invariant-loop-tag l =
    first_unlike is_same_reply 0 (replies_in l.owed l.client l.ran) l.listed ≡ first_unlike is_same_reply l.place (replies_in l.owed l.client (drop l.tag-index l.ran)) (drop l.place l.listed)
