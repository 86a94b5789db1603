use Rattle.std.proofs.Common.{◌≡◌, false, All}
use Rattle.thread_bench.proofs.polled.idle_threads.Given as goal

abbrev pub invariant-loop : goal.invariant-loop
invariant-loop l = All (λ t. t.stopped ≡ false) l.threads.items
