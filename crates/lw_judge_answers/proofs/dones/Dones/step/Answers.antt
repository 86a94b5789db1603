use Rattle.std.proofs.Common.{◌==◌, ◌&&◌, true, false, ap, ◌∙◌}
use Rattle.lw_base.specs.declared.message.What.TheVariants as what
use Rattle.lw_base.proofs.Bools.{and_true}
use Rattle.lw_model.specs.Answers.{is_done_of}
use Rattle.lw_judge_answers.proofs.dones.Dones.step.Goals as goal

pub returns-in-Done : goal.returns-in-Done
returns-in-Done c = λ s past was. c.mark.ensures s past c.args.step.now
    (λ k. ap (is_done_of k) c.in-Ran.is ∙ ap (λ w. (c.in-Ran.tag.sender == k) && elim w [ what.Done ↦ true | _ ↦ false ]) c.in-Done.is ∙ and_true (c.in-Ran.tag.sender == k))
    was
