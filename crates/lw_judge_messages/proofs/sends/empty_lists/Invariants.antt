use Rattle.std.proofs.Common.{◌≡◌, ℕ, [], length}
use Rattle.lw_judge_messages.specs.SendsAt.{items_at}
use Rattle.lw_judge_messages.proofs.sends.empty_lists.Given as goal

abbrev pub invariant-loop : goal.invariant-loop
invariant-loop l = (length l.lists.items ≡ l.counter) × ((u : ℕ) → items_at l.lists.items u ≡ [])
