use Rattle.lw_judge.proofs.Reports.{one_verdict}
use Rattle.lw_judge.proofs.report.reports_have_one_verdict.Goals as goal

pub returns : goal.returns
returns c = one_verdict
