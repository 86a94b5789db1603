use Rattle.lw_laws.proofs.ReportLocal.{no_record_begins}
use Rattle.lw_laws.proofs.bad_lines.bad_lines_are_no_record_s.Goals as goal

-- src/bad_lines.rt:13:1
pub returns : goal.returns
returns c = no_record_begins
