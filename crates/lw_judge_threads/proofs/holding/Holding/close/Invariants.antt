use Rattle.std.proofs.Common.{◌≡◌, ◌<◌, ◌≤◌, ℕ, Some, slice_get}
use Rattle.lw_judge_threads.specs.declared.holding.Channel.{Channel}
use Rattle.lw_judge_threads.specs.Holdings.{ClosesChannel}
use Rattle.lw_judge_threads.proofs.holding.Holding.close.Given as goal

abbrev pub invariant-loop-channel : goal.invariant-loop-channel
invariant-loop-channel l = record {
  below : (k : ℕ) (c n : Channel) → k < l.channel-index → slice_get l.initial.channel-items k ≡ Some c → slice_get l.channel-items k ≡ Some n → ClosesChannel c n;
  above : (k : ℕ) → l.channel-index ≤ k → slice_get l.channel-items k ≡ slice_get l.initial.channel-items k;
}
