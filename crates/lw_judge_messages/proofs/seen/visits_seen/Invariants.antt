use Rattle.std.proofs.Common.{◌≡◌, [], flat_map}
use Rattle.std.specs.List.{range_with_len}
use Rattle.lw_model.specs.Threads.{thread_count}
use Rattle.lw_model.specs.Verdict.{least_failing}
use Rattle.lw_judge_messages.specs.Tokens.{AreRunners}
use Rattle.lw_judge_messages.specs.MarksAt.{AreMarksAt}
use Rattle.lw_judge_messages.specs.SeenLines.{client_tests}
use Rattle.lw_judge_messages.proofs.seen.visits_seen.Given as goal

abbrev pub invariant-loop-place : goal.invariant-loop-place
invariant-loop-place l = AreRunners l.of l.runners → AreMarksAt l.of (thread_count l.of.script) [] l.marks
    → l.least ≡ least_failing (flat_map (client_tests l.of) (range_with_len 1 l.place))
