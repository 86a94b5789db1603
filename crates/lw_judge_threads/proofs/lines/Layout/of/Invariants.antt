use Rattle.std.proofs.Common.{◌≡◌, ℕ, length, Some, slice_get}
use Rattle.lw_model.specs.Lines.{thread_line}
use Rattle.lw_judge_threads.specs.declared.lines.ThreadLines.{ThreadLines}
use Rattle.lw_judge_threads.specs.LinesOf.{StandsAt}
use Rattle.lw_judge_threads.proofs.lines.Layout.of.Given as goal

abbrev pub invariant-loop-thread : goal.invariant-loop-thread
invariant-loop-thread l = record {
  behind : l.behind ≡ thread_line l.of l.thread-index;
  count : length l.threads.items ≡ l.thread-index;
  each : (t : ℕ) (x : ThreadLines) → slice_get l.threads.items t ≡ Some x → StandsAt l.of t x;
}
