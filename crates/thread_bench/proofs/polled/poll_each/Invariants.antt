use Rattle.std.proofs.Common.{◌≡◌, false, All}
use Rattle.thread_bench.proofs.polled.poll_each.Given as goal

abbrev pub invariant-loop-thread : goal.invariant-loop-thread
invariant-loop-thread g l = All (λ t. t.stopped ≡ false) l.threads
