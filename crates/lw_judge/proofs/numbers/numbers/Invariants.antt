use Rattle.std.proofs.Common.{◌≡◌, flat_map}
use Rattle.std.specs.List.{range_with_len}
use Rattle.lw_model.specs.Threads.{ran_of}
use Rattle.lw_model.specs.Lines.{ran_line}
use Rattle.lw_model.specs.Moves.{number_fits}
use Rattle.lw_model.specs.Verdict.{least_failing, each_line}
use Rattle.lw_judge.proofs.numbers.numbers.Given as goal

abbrev pub invariant-loop-thread : goal.invariant-loop-thread
invariant-loop-thread l = l.least ≡ least_failing (flat_map (λ t. each_line (ran_line l.of t) number_fits (ran_of l.of t)) (range_with_len 0 l.thread))
