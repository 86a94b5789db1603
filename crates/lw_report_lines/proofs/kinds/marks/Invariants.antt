use Rattle.std.proofs.Common.{◌≡◌, ◌-◌}
use Rattle.lw_report_lines.specs.LineKinds.{mark, results}
use Rattle.lw_report_lines.proofs.Results.{prefixed}
use Rattle.lw_report_lines.proofs.kinds.marks.Given as goal

abbrev pub invariant-loop : goal.invariant-loop
invariant-loop l = results (mark) l.count l.fn.line ≡ prefixed l.items.items (results (mark) (l.count - l.counter) l.rest)
