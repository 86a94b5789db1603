use Rattle.std.proofs.Common.{◌≡◌, ◌<◌, ℕ, take, length, slice_index}
use Rattle.lw_judge_messages.specs.RanSent.{count_from}
use Rattle.lw_judge_messages.proofs.ran.counts_by_sender.Given as goal

abbrev pub invariant-loop-tag : goal.invariant-loop-tag
invariant-loop-tag l = record {
  count : length l.counts.items ≡ l.threads;
  each : (s : ℕ) → s < l.threads → slice_index l.counts.items s ≡ count_from (take l.tag-index l.ran) s;
}
