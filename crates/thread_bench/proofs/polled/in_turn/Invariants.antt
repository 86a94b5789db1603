use Rattle.std.proofs.Common.{◌≡◌, false, length}
use Rattle.thread_bench.proofs.polled.in_turn.Given as goal

abbrev pub invariant-loop-now : goal.invariant-loop-now
invariant-loop-now g l = (l.one.stopped ≡ false) × (length l.one.ends ≡ 2) × (l.other.stopped ≡ false) × (length l.other.ends ≡ 2)
