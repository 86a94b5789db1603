use Rattle.std.proofs.Common.{◌≡◌, filter}
use Rattle.std.specs.List.{range_with_len}
use Rattle.lw_model.specs.Threads.{ran_of}
use Rattle.lw_judge_messages.specs.declared.tokens.Token.{Token}
use Rattle.lw_judge_messages.specs.Tokens.{threads_under, is_run}
use Rattle.lw_judge_messages.proofs.tokens.Runners.new.Given as goal

abbrev pub invariant-loop-thread : goal.invariant-loop-thread
invariant-loop-thread l = (w : Token) → threads_under l.runners w ≡ filter (λ t. is_run w (ran_of l.of t)) (range_with_len 0 l.thread)
