use Rattle.std.proofs.Common.{◌+◌, ap}
use Rattle.lw_base.proofs.TextLines.{rest_is, some_left}
use Rattle.lw_report.proofs.Reading.{state}
use Rattle.lw_report.proofs.lines.Lines.advance.Goals as goal

pub returns : goal.returns
returns c =
    let some = some_left c.self.inside.rest.now (rw (← c.self.view_is) at c.requires) in
    rw (← c.self.view_is) (ap (state (c.self.inside.line + 1)) (rest_is c.self.inside.rest.now c.self.inside.end some c.self.invariant.0))
