use Rattle.std.proofs.Common.{◌≡◌, ◌+◌, take}
use Rattle.std.specs.List.{sum_by}
use Rattle.lw_model.specs.Lines.{round_size}
use Rattle.lw_judge_threads.proofs.lines.behind_rounds.Given as goal

abbrev pub invariant-loop-round : goal.invariant-loop-round
invariant-loop-round l = l.line ≡ l.first + sum_by round_size (take l.round-index l.rounds)
