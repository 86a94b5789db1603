use Rattle.std.proofs.Common.{take, get_or, arith, subst, sym}
use Rattle.std.specs.Prelude.{filter_map}
use Rattle.std.proofs.lemmas.List.{take_all}
use Rattle.lw_base.specs.declared.message.Tag.{Tag}
use Rattle.lw_base.specs.declared.message.What.TheVariants as what
use Rattle.lw_model.specs.Journal.{request_of}
use Rattle.lw_judge_devices.specs.Answered.{IsImageOf, IsBehind}
use Rattle.lw_judge_devices.proofs.Behind.{behind_moved}
use Rattle.lw_judge_devices.proofs.Requests.{picked_more, picked_same, is_request, no_request}
use Rattle.lw_judge_devices.proofs.journal.Journal.answer_all.Goals as goal
use Rattle.lw_judge_devices.proofs.journal.Journal.answer_all.Goals.{in-Request+in_ok-answer, in_default}

pub loop-tag-preserved : goal.loop-tag-preserved
loop-tag-preserved c =
    let s = c.args.self.now.script.now in
    let d = c.args.self.now.device in
    let ran = c.args.ran.now in
    let i = c.loop-tag.tag-index in
    let none : Tag = record { sender = 0; number = 0; what = what.Request 0 } in
    elim c.match-tag.branch [
      | in-Request+in_ok-answer w ↦
          record {
            image = subst (IsImageOf s d) (sym w.image-is) w.in_ok-answer.ensures.image;
            behind = λ was start. behind_moved s d _ _ was _ _ _ _ (picked_more request_of ran i none _ c.loop-tag-test.true (is_request (get_or ran i none) w.in-Request.op w.in-Request.is)) w.owed-is w.image-is
                (w.in_ok-answer.ensures.behind (filter_map request_of (take i ran)) was (c.loop-tag.invariant.behind was start));
          }
      | in_default w ↦
          record {
            image = subst (IsImageOf s d) (sym w.image-is) c.loop-tag.invariant.image;
            behind = λ was start. behind_moved s d _ _ was _ _ _ _ (picked_same request_of ran i none c.loop-tag-test.true (no_request (get_or ran i none) w.in_default.not-Request)) w.owed-is w.image-is
                (c.loop-tag.invariant.behind was start);
          }
    ]

pub returns : goal.returns
returns c = λ was start.
    subst (λ l. IsBehind c.args.self.now.script.now c.args.self.now.device (filter_map request_of l) was c.loop-tag.owed c.loop-tag.image) (take_all c.loop-tag.tag-index c.args.ran.now (omega arith))
    (c.loop-tag.invariant.behind was start)
