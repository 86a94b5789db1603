use Rattle.std.proofs.Common.{◌≡◌, false, All}
use Rattle.thread_bench.proofs.polled.idle_polls.Given as goal

abbrev pub invariant-loop-now : goal.invariant-loop-now
invariant-loop-now g l = All (λ t. t.stopped ≡ false) l.threads
