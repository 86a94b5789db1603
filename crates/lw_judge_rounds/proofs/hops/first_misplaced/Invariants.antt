use Rattle.std.proofs.Common.{◌≡◌, flat_map}
use Rattle.std.specs.List.{range_with_len}
use Rattle.lw_model.specs.Verdict.{least_failing}
use Rattle.lw_judge_threads.proofs.Threads.{home_tests}
use Rattle.lw_judge_rounds.proofs.hops.first_misplaced.Given as goal

abbrev pub invariant-loop-thread : goal.invariant-loop-thread
invariant-loop-thread l = l.least ≡ least_failing (flat_map (home_tests l.of) (range_with_len 0 l.thread))
