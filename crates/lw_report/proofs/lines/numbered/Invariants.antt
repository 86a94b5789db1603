use Rattle.std.proofs.Common.{◌≡◌, ◌-◌}
use Rattle.lw_report.specs.Machine.{numbered}
use Rattle.lw_report.proofs.Reading.{before}
use Rattle.lw_report.proofs.lines.numbered.Given as goal

abbrev pub invariant-loop-number : goal.invariant-loop-number
invariant-loop-number g l = numbered l.count 0 (g.P.Part.of l.part) l.fn.lines ≡ before l.items.items (numbered (l.count - l.number) l.number (g.P.Part.of l.part) l.lines)
