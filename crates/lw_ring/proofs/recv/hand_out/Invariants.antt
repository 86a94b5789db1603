use Rattle.std.proofs.Common.{◌≡◌, ◌++◌, ◌≤◌, length, reverse, vec_capacity}
use Rattle.lw_ring.proofs.recv.hand_out.Given as goal

abbrev pub invariant-loop : goal.invariant-loop
invariant-loop g l = record {
  items : l.batch.items ++ reverse l.hand.items ≡ l.initial.batch.items ++ reverse l.initial.hand.items;
  count : length l.batch.items ≡ l.counter;
  room : vec_capacity l.initial.batch ≤ vec_capacity l.batch;
}
