use Rattle.std.proofs.Common.{true, false, sym, ◌∙◌, refl, arith}
use Rattle.lw_model.specs.Answers.{earlier_completed}
use Rattle.lw_judge_answers.proofs.Fitting.{client_line}
use Rattle.lw_judge_answers.proofs.answers.Answering.client_did_fits.Goals as goal

pub returns-then-may_answer : goal.returns-then-may_answer
returns-then-may_answer c = λ past holds knows.
    client_line c.args.of.now c.args.thread past c.args.place c.args.line.now true _ (sym c.from.ensures ∙ c.if-from-place.false) (omega arith)
    (sym c.if-may_answer.true ∙ c.may_answer.ensures past holds knows) (c.earlier_completed.ensures past knows.completed)

pub returns-else-may_answer : goal.returns-else-may_answer
returns-else-may_answer c = λ past holds knows.
    c.if-may_answer.false
    ∙ client_line c.args.of.now c.args.thread past c.args.place c.args.line.now false (earlier_completed c.args.of.now c.args.thread past c.args.place)
    (sym c.from.ensures ∙ c.if-from-place.false) (omega arith) (sym c.if-may_answer.false ∙ c.may_answer.ensures past holds knows) refl
