use Rattle.std.proofs.Common.{◌≤◌, subst, arith, length}
use Rattle.lw_report.specs.Report.{reading}
use Rattle.lw_report.specs.Parsed.{Tells}
use Rattle.lw_judge.specs.Reports.{report_limit}
use Rattle.lw_judge.proofs.Reports.{told_verdict, answer_lawful}
use Rattle.lw_judge.proofs.report.judge_report.Goals as goal

pub returns-in-Told-clause-verdict : goal.returns-in-Told-clause-verdict
returns-in-Told-clause-verdict c =
    let bytes = c.args.bytes.now in
    let told = subst (λ p. Tells p (reading bytes)) c.in-Told.is c.in_ok-record.ensures.told in
    let few : length bytes ≤ report_limit = omega arith in
    told_verdict bytes c.in-Told.record c.judge.result few told c.judge.ensures.verdict

pub returns-in-Told-clause-lawful : goal.returns-in-Told-clause-lawful
returns-in-Told-clause-lawful c = answer_lawful c.args.bytes.now c.judge.result (returns-in-Told-clause-verdict c)
