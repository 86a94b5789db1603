use Rattle.std.proofs.Common.{ap, sym, ◌∙◌}
use Rattle.std.proofs.lemmas.Result.{IfOk-weaker}
use Rattle.lw_judge.specs.Verdicts.{verdict_as}
use Rattle.lw_judge.proofs.RuleAfterRule.{first_fails, lawful_is, none_of, second_fails, to_the_third}
use Rattle.lw_judge.proofs.rules.judge_laid_out.Goals as goal

pub returns-in-Some-clause-lawful : goal.returns-in-Some-clause-lawful
returns-in-Some-clause-lawful c =
    let r = c.args.of.now in
    lawful_is r _ (ap verdict_as (sym (first_fails r c.in_ok-line.field-0 c.in-Some.line c.in_ok-line.ensures c.in-Some.is)))

pub returns-in-Some-2-clause-lawful : goal.returns-in-Some-2-clause-lawful
returns-in-Some-2-clause-lawful c =
    let r = c.args.of.now in
    lawful_is r _ (ap verdict_as (sym (second_fails r c.in_ok-line.field-0 c.in_ok-line-2.field-0 c.in-Some-2.line c.in_ok-line.ensures (none_of c.in_ok-line.field-0 c.in_default.not-Some) c.in_ok-line-2.ensures c.in-Some-2.is)))

pub returns-clause-lawful : goal.returns-clause-lawful
returns-clause-lawful c =
    let r = c.args.of.now in
    let third = to_the_third r c.in_ok-line.field-0 c.in_ok-line-2.field-0 c.in_ok-line.ensures (none_of c.in_ok-line.field-0 c.in_default.not-Some) c.in_ok-line-2.ensures (none_of c.in_ok-line-2.field-0 c.in_default-2.not-Some) in
    IfOk-weaker c.judge_own_orders.result _ _ (λ v is. lawful_is r v (is ∙ ap verdict_as (sym third))) c.judge_own_orders.ensures
