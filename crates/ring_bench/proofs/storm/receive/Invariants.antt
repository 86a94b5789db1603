use Rattle.std.proofs.Common.{◌≡◌, ◌≤◌, [], IsSome, vec_capacity}
use Rattle.ring_bench.proofs.storm.receive.Given as goal

abbrev pub invariant-loop : goal.invariant-loop
invariant-loop g l = record {
  latch : IsSome l.recv.latch;
  not_closed : l.recv.closed ≡ 0;
  empty : l.batch.items ≡ [];
  room : 8 ≤ vec_capacity l.batch;
}
