use Rattle.std.proofs.Common.{◌≡◌, ◌++◌, [], ◌∷◌, cond, take}
use Rattle.lw_judge_messages.specs.declared.tokens.Token.{Token}
use Rattle.lw_judge_messages.specs.Tokens.{threads_under, is_run, IsAbove}
use Rattle.lw_judge_messages.proofs.tokens.Runners.add_thread.Given as goal

abbrev pub invariant-loop-tag : goal.invariant-loop-tag
invariant-loop-tag l = IsAbove l.initial.self l.thread → (w : Token) → threads_under l.self w ≡ threads_under l.initial.self w ++ cond (is_run w (take l.tag-index l.ran)) (l.thread ∷ []) []
