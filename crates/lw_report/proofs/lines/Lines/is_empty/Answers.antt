use Rattle.lw_base.proofs.TextLines.{none_left}
use Rattle.lw_report.proofs.lines.Lines.is_empty.Goals as goal

pub returns : goal.returns
returns c = rw (← c.self.view_is) (none_left c.self.inside.rest.now)
