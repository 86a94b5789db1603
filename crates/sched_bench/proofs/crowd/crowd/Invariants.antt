use Rattle.std.proofs.Common.{◌≡◌, ◌<◌, length, All}
use Rattle.sched_bench.proofs.crowd.crowd.Given as goal

abbrev pub invariant-loop-thread : goal.invariant-loop-thread
invariant-loop-thread l = record {
  count : length l.rows.items ≡ l.thread;
  there : All (λ w. w.reactor < 16) l.rows.items;
}
