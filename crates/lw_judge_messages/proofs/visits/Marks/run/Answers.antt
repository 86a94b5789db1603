use Rattle.std.proofs.Common.{Some, ap, sym, ◌∙◌}
use Rattle.std.proofs.lemmas.Result.{on_ok_weaker}
use Rattle.lw_model.specs.Threads.{image_at}
use Rattle.lw_judge_messages.proofs.VisitMarks.{marks_run, marks_unknown}
use Rattle.lw_judge_messages.proofs.visits.Marks.run.Goals as goal

pub returns-then-ne : goal.returns-then-ne
returns-then-ne c = λ r past place script holds are.
    marks_unknown r c.args.thread place past c.in-Some-Visit.origin c.in-Some-Visit.op c.in-Some-Visit.device _ c.args.tag.now c.image_at.result
    (sym c.of.ensures ∙ c.in-Some-Visit.is ∙ ap Some c.in-Some-Visit.field-0-is)
    (c.image_at.ensures ∙ ap (λ s. image_at s c.in-Some-Visit.origin c.in-Some-Visit.op) (sym script)) c.if-ne.ensures are

pub returns : goal.returns
returns c = λ r past place script holds are.
    on_ok_weaker c.add.result (λ run. marks_run r c.args.thread place past c.in-Some-Visit.origin c.in-Some-Visit.op c.in-Some-Visit.device _ c.add.new.self c.args.tag.now c.mark_of-mark.result
    (sym c.of.ensures ∙ c.in-Some-Visit.is ∙ ap Some c.in-Some-Visit.field-0-is) (c.mark_of-mark.ensures r.script past holds) run are) c.add.ensures
