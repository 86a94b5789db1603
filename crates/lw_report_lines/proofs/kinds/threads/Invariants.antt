use Rattle.std.proofs.Common.{◌≡◌, ◌-◌}
use Rattle.lw_base.specs.Words.{greatest_u32}
use Rattle.lw_report_lines.specs.LineParts.{spaced}
use Rattle.lw_report_lines.specs.LineKinds.{results}
use Rattle.lw_report_lines.proofs.Results.{prefixed}
use Rattle.lw_report_lines.proofs.kinds.threads.Given as goal

abbrev pub invariant-loop : goal.invariant-loop
invariant-loop l = results (spaced greatest_u32) l.count l.fn.line ≡ prefixed l.items.items (results (spaced greatest_u32) (l.count - l.counter) l.rest)
