use Rattle.std.proofs.Common.{◌==◌, ◌&&◌, option_map, sym, ap, ap₂, ◌∙◌}
use Rattle.lw_model.specs.Answers.{answer_fits}
use Rattle.lw_judge_answers.proofs.answers.Answering.answer_fits.Goals as goal

pub returns-then-is_closed : goal.returns-then-is_closed
returns-then-is_closed c = λ s t past named holds was.
    ap₂ (λ b n. b && n == 0) c.if-is_closed.ensures (c.total.ensures s t past was)
    ∙ sym (ap (λ o. answer_fits s t past (option_map (λ o. o.now) o) c.args.answer) c.in-None.is)
