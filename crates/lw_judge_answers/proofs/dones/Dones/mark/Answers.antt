use Rattle.std.proofs.Common.{◌-◌, true, set, ap, sym, ◌∙◌, arith}
use Rattle.lw_judge_answers.proofs.Finishing.{done_marked, app_unmarked, one_less, set_same}
use Rattle.lw_judge_answers.proofs.dones.Dones.mark.Goals as goal

pub returns-then-sender-eq0 : goal.returns-then-sender-eq0
returns-then-sender-eq0 c = λ s past now is was. record {
  each = was.each ∙ app_unmarked s past now c.args.sender is c.if-sender-eq0.true;
  left = was.left;
}

pub returns-then-is_marked : goal.returns-then-is_marked
returns-then-is_marked c = λ s past now is was.
    let place = c.args.sender - 1 in record {
      each =
          sym (set_same c.args.self.now.done.items place (sym c.if-is_marked.ensures))
          ∙ ap (λ ds. set ds place true) was.each
          ∙ done_marked s past now c.args.sender is (omega (arith, c.if-sender-eq0.false));
      left = was.left;
    }

pub returns : goal.returns
returns c = λ s past now is was.
    let place = c.args.sender - 1 in record {
      each = ap (λ ds. set ds place true) was.each ∙ done_marked s past now c.args.sender is (omega (arith, c.if-sender-eq0.false));
      left = c.saturating_sub-self.ensures ∙ ap (λ n. n - 1) was.left ∙ sym (one_less c.args.self.now.done.items place (sym c.if-is_marked.ensures));
    }
