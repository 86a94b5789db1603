use Rattle.std.proofs.Common.{[], List, map, filter, nat_lt}
use Rattle.std.specs.List.{range_with_len}
use Rattle.lw_base.specs.declared.message.What.TheVariants as what
use Rattle.lw_model.specs.declared.step.Step.{Step}
use Rattle.lw_model.specs.Threads.{thread_count, is_on}
use Rattle.lw_model.specs.Holding.{references}
use Rattle.lw_judge_threads.specs.Holdings.{HoldsAt}
use Rattle.lw_judge_messages.specs.SendsAt.{IsSized, Adds}
use Rattle.lw_judge_messages.proofs.sends.Sends.close.Given as goal

abbrev pub invariant-loop-device : goal.invariant-loop-device
invariant-loop-device l = (past : List Step) → HoldsAt l.of.script l.thread past l.holding → IsSized (thread_count l.of.script) l.initial.self
    → Adds (thread_count l.of.script) l.thread
    (map (λ d. (l.thread, what.PutSelf d)) (filter (λ d. nat_lt 0 (references (is_on l.of.script l.thread d) past)) (range_with_len 0 l.device))) [] l.initial.self l.self
