use Rattle.std.proofs.Common.{◌≡◌, IfOk, ap, subst, sym}
use Rattle.lw_model.specs.Verdict.{devices, least_failing, visits_seen}
use Rattle.lw_judge.specs.Verdicts.{verdict_as}
use Rattle.lw_judge.proofs.RuleAfterRule.{devices_fit, none_of, sixth_fails, to_the_eighth}
use Rattle.lw_judge.proofs.rules.judge_ends.Goals as goal

pub returns-in-Some : goal.returns-in-Some
returns-in-Some c =
    let r = c.args.of.now in
    let sixth : c.in_ok-line.field-0 ≡ least_failing (devices r) = c.in_ok-line.ensures c.requires.walked.devices c.requires.layout.devices (devices_fit r c.args.layout.now.devices c.requires.layout.devices c.requires.layout.few) in
    ap verdict_as (sym (sixth_fails r c.in_ok-line.field-0 c.in-Some.line sixth c.in-Some.is))

pub returns : goal.returns
returns c =
    let r = c.args.of.now in
    let sixth : c.in_ok-line.field-0 ≡ least_failing (devices r) = c.in_ok-line.ensures c.requires.walked.devices c.requires.layout.devices (devices_fit r c.args.layout.now.devices c.requires.layout.devices c.requires.layout.few) in
    let seventh : c.visits_seen.result ≡ least_failing (visits_seen r) = c.visits_seen.ensures c.requires.runners c.requires.walked.marks in
    subst (λ o. IfOk c.judge_rounds.result (λ v. v ≡ verdict_as o))
    (sym (to_the_eighth r c.in_ok-line.field-0 c.visits_seen.result sixth (none_of c.in_ok-line.field-0 c.in_default.not-Some) seventh c.in_default-visits_seen.is)) c.judge_rounds.ensures
