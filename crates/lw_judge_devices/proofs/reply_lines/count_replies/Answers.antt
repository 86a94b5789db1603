use Rattle.std.proofs.Common.{get_or, take, length, arith, sym, ap, ◌∙◌}
use Rattle.std.specs.Prelude.{filter_map}
use Rattle.std.proofs.lemmas.List.{length_push}
use Rattle.lw_base.specs.declared.message.Tag.{Tag}
use Rattle.lw_base.specs.declared.message.What.TheVariants as what
use Rattle.lw_model.specs.Lawful.{reply_op}
use Rattle.lw_judge_devices.proofs.Requests.{picked_more, picked_same, is_reply, no_reply}
use Rattle.lw_judge_devices.proofs.reply_lines.count_replies.Goals as goal
use Rattle.lw_judge_devices.proofs.reply_lines.count_replies.Goals.{in-Reply, in_default}

pub loop-tag-preserved : goal.loop-tag-preserved
loop-tag-preserved c =
    let ran = c.args.ran.now in
    let i = c.loop-tag.tag-index in
    let none : Tag = record { sender = 0; number = 0; what = what.Request 0 } in
    elim c.match-tag.branch [
      | in-Reply w ↦
          record {
            count = omega (
              arith,
              w.count-is,
              c.loop-tag.invariant.count,
              ap length (picked_more reply_op ran i none _ c.loop-tag-test.true (is_reply (get_or ran i none) w.in-Reply.op w.in-Reply.is)),
              length_push (filter_map reply_op (take i ran)) w.in-Reply.op,
            );
            few = omega (arith, w.count-is, c.loop-tag.invariant.few);
          }
      | in_default w ↦
          record {
            count = w.count-is ∙ c.loop-tag.invariant.count ∙ sym (ap length (picked_same reply_op ran i none c.loop-tag-test.true (no_reply (get_or ran i none) w.in_default.not-Reply)));
            few = omega (arith, w.count-is, c.loop-tag.invariant.few);
          }
    ]
