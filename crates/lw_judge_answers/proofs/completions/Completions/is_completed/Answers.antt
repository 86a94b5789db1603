use Rattle.std.proofs.Common.{nat_lt, not, ◌||◌, take_while, sym, ap, ap₂, ◌∙◌}
use Rattle.std.specs.List.{list_any}
use Rattle.lw_model.specs.Threads.{op_at}
use Rattle.lw_model.specs.Holding.{runs}
use Rattle.lw_model.specs.Answers.{completes, is_did}
use Rattle.lw_judge_answers.proofs.Completing.{came_since, runs_no_did}
use Rattle.lw_judge_answers.proofs.completions.Completions.is_completed.Goals as goal

pub returns-else-not-is_started : goal.returns-else-not-is_started
returns-else-not-is_started c = λ dids past less was.
    let what = completes (op_at c.args.script.now c.args.thread c.args.line.now.op) c.args.line.now.op in
    let i = c.args.place in
    ap₂ nat_lt (c.came.ensures dids past less was) (c.completed.ensures dids past was)
    ∙ sym (came_since (runs what) (is_did i) (runs_no_did what i) past)
    ∙ ap (λ b. not b || list_any (runs what) (take_while (λ s. not (is_did i s)) past)) c.if-not-is_started.ensures
