use Rattle.std.proofs.Common.{◌≡◌, ◌+◌, [], None, Some, cond, drop, nat_le, reverse, take}
use Rattle.lw_model.specs.Lines.{clock_line, round_line}
use Rattle.lw_judge_threads.specs.Firsts.{lesser}
use Rattle.lw_judge_rounds.specs.RoundsAt.{ComesBehind}
use Rattle.lw_judge_rounds.proofs.RoundSteps.{rounds_from}
use Rattle.lw_judge_rounds.proofs.rounds.dynamic_line.Given as goal

abbrev pub invariant-loop-round : goal.invariant-loop-round
invariant-loop-round l = record {
  left : lesser (cond (nat_le l.span.first l.span.last) None (Some (clock_line l.of))) (rounds_from l.of l.span (clock_line l.of + 1) [] l.of.rounds)
      ≡ lesser l.least (rounds_from l.of l.span l.line (reverse (take l.round-index l.of.rounds)) (drop l.round-index l.of.rounds));
  line : l.line ≡ round_line l.of l.round-index;
  before : ComesBehind l.span.first (reverse (take l.round-index l.of.rounds)) l.before;
}
