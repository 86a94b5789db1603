use Rattle.std.proofs.Common.{◌≡◌, ◌≤◌, [], vec_capacity}
use Rattle.ring_bench.proofs.ringed.take_all.Given as goal

abbrev pub invariant-loop : goal.invariant-loop
invariant-loop g l = record {
  not_closed : l.recv.closed ≡ 0;
  empty : l.taken.items ≡ [];
  room : 8 ≤ vec_capacity l.taken;
}
