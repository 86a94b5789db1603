use Rattle.std.proofs.Common.{nat_lt, length, not, ◌||◌, ap, ap₂, ◌∙◌}
use Rattle.lw_model.specs.Threads.{depth_of}
use Rattle.lw_model.specs.Answers.{unanswered}
use Rattle.lw_judge_answers.proofs.answers.Answering.depth_fits.Goals as goal

pub returns-else-not-is_sent : goal.returns-else-not-is_sent
returns-else-not-is_sent c = λ s t past deep was.
    ap₂ nat_lt (c.total.ensures s t past was) (c.from.ensures ∙ deep) ∙ ap (λ b. not b || nat_lt (length (unanswered past)) (depth_of s t)) c.if-not-is_sent.ensures
