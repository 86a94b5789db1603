use Rattle.std.proofs.Common.{[], map}
use Rattle.std.specs.List.{range_with_len}
use Rattle.lw_base.specs.declared.message.What.TheVariants as what
use Rattle.lw_model.specs.Threads.{thread_count, owner_of}
use Rattle.lw_judge_messages.specs.SendsAt.{IsSized, Adds}
use Rattle.lw_judge_messages.proofs.sends.Sends.stop_owners.Given as goal

abbrev pub invariant-loop-device : goal.invariant-loop-device
invariant-loop-device l = IsSized (thread_count l.of.script) l.initial.self
    → Adds (thread_count l.of.script) 0 (map (λ d. (owner_of l.of.script d, what.Stop)) (range_with_len 0 l.device)) [] l.initial.self l.self
