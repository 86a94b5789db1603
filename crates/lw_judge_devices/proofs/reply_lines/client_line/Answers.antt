use Rattle.std.proofs.Common.{◌+◌, ◌<◌, ◌^◌, length, arith, ap, subst, sym}
use Rattle.std.specs.Option.{IfSome}
use Rattle.lw_model.specs.Same.{is_same_reply}
use Rattle.lw_judge_devices.specs.OwedLines.{replies_in}
use Rattle.lw_judge_threads.proofs.Threads.{line_below}
use Rattle.lw_judge_devices.proofs.RepliesLines.{unlike_within}
use Rattle.lw_judge_devices.proofs.reply_lines.client_line.Goals as goal

pub at_line-requires : goal.at_line-requires
at_line-requires c =
    let found = c.as_slice-listed.result.now in
    let base = c.args.lines.now.replies in
    subst (λ o. IfSome o (λ i. base + i < 2 ^ 64)) (sym c.first_unowed.ensures)
    (line_below base (0 + length found) (base + length found) _ (omega arith) (omega (arith, c.requires, ap length c.as_slice-listed.ensures)) (unlike_within is_same_reply 0 (replies_in c.args.owed.now c.args.client c.as_slice-ran.result.now) found))
