use Rattle.std.proofs.Common.{◌&&◌, sym, ap, ap₂, ◌∙◌}
use Rattle.lw_model.specs.Answers.{answer_fits, depth_fits}
use Rattle.lw_judge_answers.proofs.Fitting.{found_named}
use Rattle.lw_judge_answers.proofs.answers.Answering.may_answer.Goals as goal

pub returns-then-answer_fits : goal.returns-then-answer_fits
returns-then-answer_fits c = λ past holds knows.
    let s = c.args.of.now.script in
    let t = c.args.thread in
    let named = found_named (λ o. o.now) c.args.of.now t c.args.line.now.op c.op_at.result c.op_at.ensures in
    ap₂ (λ a b. a && b)
    (sym c.if-answer_fits.true ∙ c.answer_fits.ensures s t past named holds knows.asked ∙ ap (λ o. answer_fits s t past o c.args.line.now.answer) c.op_at.ensures)
    (c.depth_fits.ensures s t past c.depth_of.ensures knows.asked)

pub returns-else-answer_fits : goal.returns-else-answer_fits
returns-else-answer_fits c = λ past holds knows.
    let s = c.args.of.now.script in
    let t = c.args.thread in
    let named = found_named (λ o. o.now) c.args.of.now t c.args.line.now.op c.op_at.result c.op_at.ensures in
    c.if-answer_fits.false ∙ ap (λ a. a && depth_fits s t past c.args.line.now.answer)
    (sym c.if-answer_fits.false ∙ c.answer_fits.ensures s t past named holds knows.asked ∙ ap (λ o. answer_fits s t past o c.args.line.now.answer) c.op_at.ensures)
