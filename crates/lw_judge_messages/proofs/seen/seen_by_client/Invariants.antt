use Rattle.std.proofs.Common.{[], take}
use Rattle.lw_model.specs.Threads.{thread_count}
use Rattle.lw_judge_messages.specs.Tokens.{AreRunners}
use Rattle.lw_judge_messages.specs.MarksAt.{AreMarksAt}
use Rattle.lw_judge_threads.specs.AgainstAt.{IsAgainst}
use Rattle.lw_judge_messages.specs.SeenLines.{tests_behind}
use Rattle.lw_judge_messages.proofs.seen.seen_by_client.Given as goal

abbrev pub invariant-loop-tag : goal.invariant-loop-tag
invariant-loop-tag l = AreRunners l.of l.runners → AreMarksAt l.of (thread_count l.of.script) [] l.marks
    → IsAgainst (tests_behind l.of l.client (take l.tag-index l.tag-items) l.seen) l.against
