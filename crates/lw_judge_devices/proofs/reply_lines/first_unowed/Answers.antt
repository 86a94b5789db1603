use Rattle.std.proofs.Common.{length, drop, nat_lt, arith, sym, ap, ◌∙◌}
use Rattle.std.proofs.lemmas.List.{drop_all}
use Rattle.lw_base.proofs.Lists.{then_some_is}
use Rattle.lw_model.specs.Same.{is_same_reply}
use Rattle.lw_judge_threads.specs.Firsts.{first_unlike}
use Rattle.lw_judge_devices.specs.OwedLines.{replies_in}
use Rattle.lw_judge_devices.proofs.RepliesLines.{none_wanted}
use Rattle.lw_judge_devices.proofs.reply_lines.first_unowed.Goals as goal

pub returns : goal.returns
returns c =
    let place = c.loop-tag.place in
    let listed = c.args.listed.now in
    c.then_some.ensures ∙ then_some_is (nat_lt place (length listed)) place
    ∙ sym (none_wanted is_same_reply place listed)
    ∙ ap (λ ran. first_unlike is_same_reply place (replies_in c.args.owed.now c.args.client ran) (drop place listed)) (sym (drop_all c.loop-tag.tag-index c.args.ran.now (omega arith)))
    ∙ sym c.loop-tag.invariant
