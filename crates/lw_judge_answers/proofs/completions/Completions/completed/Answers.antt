use Rattle.std.proofs.Common.{sym, ap, ◌∙◌}
use Rattle.lw_model.specs.Holding.{runs}
use Rattle.lw_model.specs.Answers.{completes}
use Rattle.lw_judge_answers.specs.CompletionsAt.{last_where}
use Rattle.lw_judge_answers.proofs.Completing.{no_op_completed, other_completed}
use Rattle.lw_judge_answers.proofs.completions.Completions.completed.Goals as goal

pub returns-in_default : goal.returns-in_default
returns-in_default c = λ dids past was.
    sym (no_op_completed c.args.op past) ∙ ap (λ o. last_where (runs (completes o c.args.op)) past) c.in_default.ensures

pub returns-in_default-started : goal.returns-in_default-started
returns-in_default-started c = λ dids past was.
    sym (other_completed c.args.op c.in-Some.started.now past c.in_default-started.not-Visit c.in_default-started.not-Each)
    ∙ ap (λ o. last_where (runs (completes o c.args.op)) past) c.in-Some.ensures
