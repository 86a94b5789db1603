use Rattle.std.proofs.Common.{◌≡◌, ◌≤◌, [], vec_capacity}
use Rattle.thread_bench.proofs.bare.in_turn.Given as goal

abbrev pub invariant-loop : goal.invariant-loop
invariant-loop g l = record {
  not_closed : l.recv.closed ≡ 0;
  family : l.end.family ≡ l.initial.end.family;
  empty : l.taken.items ≡ [];
  room : l.batch ≤ vec_capacity l.taken;
}
