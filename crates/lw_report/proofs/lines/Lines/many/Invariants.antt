use Rattle.std.proofs.Common.{◌≡◌, length}
use Rattle.lw_report.specs.Machine.{many}
use Rattle.lw_report.proofs.Reading.{behind}
use Rattle.lw_report.proofs.lines.Lines.many.Given as goal

abbrev pub invariant-loop-items : goal.invariant-loop-items
invariant-loop-items g l = many (g.K.Kind.of l.kind) l.fn.self ≡ behind l.items.items (many (g.K.Kind.of l.kind) l.self)

abbrev pub decreases-loop-items : goal.decreases-loop-items
decreases-loop-items g l = length l.self.lines
