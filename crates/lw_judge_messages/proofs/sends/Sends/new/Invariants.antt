use Rattle.std.proofs.Common.{◌≡◌, ◌<◌, ℕ, [], length}
use Rattle.lw_judge_messages.specs.SendsAt.{items_at}
use Rattle.lw_judge_messages.proofs.sends.Sends.new.Given as goal

abbrev pub invariant-loop : goal.invariant-loop
invariant-loop l = record {
  count : length l.lists.items ≡ l.counter;
  each : (s : ℕ) → s < l.counter → length (items_at l.lists.items s) ≡ l.threads;
  empty : (s u : ℕ) → items_at (items_at l.lists.items s) u ≡ [];
}
