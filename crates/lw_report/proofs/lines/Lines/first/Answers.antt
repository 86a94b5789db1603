use Rattle.std.proofs.Common.{◌<◌, length, arith}
use Rattle.lw_base.proofs.TextLines.{first_is}
use Rattle.lw_report.proofs.lines.Lines.first.Goals as goal

pub returns-else-self-eq0 : goal.returns-else-self-eq0
returns-else-self-eq0 c =
    let some : 0 < length c.self.inside.rest.now = omega arith in
    rw (← c.self.view_is) (first_is c.self.inside.rest.now c.self.inside.end some c.self.invariant.0)
