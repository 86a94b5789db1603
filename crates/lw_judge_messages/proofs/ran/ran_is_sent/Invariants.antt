use Rattle.std.proofs.Common.{◌≡◌, [], flat_map}
use Rattle.std.specs.List.{range_with_len}
use Rattle.lw_model.specs.Threads.{thread_count}
use Rattle.lw_model.specs.Verdict.{least_failing}
use Rattle.lw_judge_messages.specs.Tokens.{AreRunners}
use Rattle.lw_judge_messages.specs.SendsAt.{AreSendsAt}
use Rattle.lw_judge_messages.proofs.RanTests.{tests_of}
use Rattle.lw_judge_messages.proofs.ran.ran_is_sent.Given as goal

abbrev pub invariant-loop-thread : goal.invariant-loop-thread
invariant-loop-thread l = AreRunners l.of l.runners → AreSendsAt l.of (thread_count l.of.script) [] l.sends
    → l.first ≡ least_failing (flat_map (tests_of l.of) (range_with_len 0 l.thread))
