use Rattle.std.proofs.Common.{◌≡◌, ◌∷◌, cond, sym, ap, subst, ◌∙◌, arith}
use Rattle.lw_model.specs.Holding.{is_sent}
use Rattle.lw_model.specs.Answers.{unanswered}
use Rattle.lw_judge_answers.specs.UnansweredAt.{CountsOps}
use Rattle.lw_judge_answers.proofs.Unanswering.{unanswered-le}
use Rattle.lw_judge_answers.proofs.unanswered.Unanswered.step.Goals as goal

pub returns-in_ok-send-in-Did : goal.returns-in_ok-send-in-Did
returns-in_ok-send-in-Did c = λ past few was.
    let op = c.in-Did.line.op in
    let more : unanswered (c.args.step.now ∷ past) ≡ op ∷ unanswered past =
    ap (λ s. unanswered (s ∷ past)) c.in-Did.is ∙ ap (λ a. cond (is_sent a) (op ∷ unanswered past) (unanswered past)) c.in-Sent.is in
    subst (λ ops. CountsOps c.args.script.now c.args.thread ops c.send.new.self) (sym more)
    (c.in_ok-send-in-Did.ensures (unanswered past) (omega (arith, few, unanswered-le past)) was)
