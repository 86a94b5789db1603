use Rattle.std.proofs.Common.{◌+◌, ◌<◌, ◌==◌, ◌^◌, cond, get_or, length, sym, ap, ◌∙◌, arith, rules}
use Rattle.lw_base.specs.declared.message.Tag.{Tag}
use Rattle.lw_base.specs.declared.message.What.TheVariants as what
use Rattle.lw_judge_messages.proofs.SenderCounts.{count_from-more, counts_fit}
use Rattle.lw_judge_messages.proofs.ran.counts_by_sender.Goals as goal

-- past a list's end
abbrev no_tag : Tag
no_tag = record { sender = 0; number = 0; what = what.Request 0 }

pub count_one-requires : goal.count_one-requires
count_one-requires c =
    let ran = c.args.ran.now in
    let i = c.loop-tag.tag-index in
    let short : length ran < 2 ^ 64 = search rules in
    omega (arith, short, counts_fit c.loop-tag.counts.items c.args.threads ran i (get_or ran i no_tag).sender c.loop-tag.invariant.count c.loop-tag.invariant.each c.loop-tag-test.true)

pub loop-tag-preserved : goal.loop-tag-preserved
loop-tag-preserved c =
    let ran = c.args.ran.now in
    let i = c.loop-tag.tag-index in
    let was = c.loop-tag.invariant in
    record {
      count = c.count_one.ensures.count ∙ was.count;
      each = λ s below.
          c.count_one.ensures.each s (omega (arith, was.count, below)) ∙ ap (λ k. k + cond ((get_or ran i no_tag).sender == s) 1 0) (was.each s below)
          ∙ sym (count_from-more ran i no_tag s c.loop-tag-test.true);
    }
