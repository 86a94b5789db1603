use Rattle.std.proofs.Common.{◌≡◌, length}
use Rattle.lw_report.specs.Rounds.{rounds_at}
use Rattle.lw_report.proofs.Reading.{behind}
use Rattle.lw_report.proofs.rounds.rounds.Given as goal

abbrev pub invariant-loop-rounds : goal.invariant-loop-rounds
invariant-loop-rounds l = rounds_at l.fn.lines ≡ behind l.rounds.items (rounds_at l.lines)

abbrev pub decreases-loop-rounds : goal.decreases-loop-rounds
decreases-loop-rounds l = length l.lines.lines
