use Rattle.std.proofs.Common.{◌≡◌, ◌++◌, ◌<◌, ◌≤◌, [], length, reverse, vec_capacity, All}
use Rattle.crossbeam_queue.specs.SegTies.{IsSegPassOf}
use Rattle.lw_ring.specs.Queue.{TakenOff}
use Rattle.lw_ring.specs.Ends.{IsSpare}
use Rattle.lw_ring.proofs.recv.fill.Given as goal

abbrev pub invariant-loop : goal.invariant-loop
invariant-loop g l = record {
  of_queue : IsSegPassOf l.queue l.pass;
  off : TakenOff g.T.Tagged.letter g.T.Tagged.tag_of g.T.Tagged.fits l.fn.pass.me.view.client l.pass.me.view.client (l.fn.batch.items ++ reverse l.fn.hand.items) (l.batch.items ++ reverse l.hand.items);
  count : length l.batch.items ≤ l.fn.max;
  room : vec_capacity l.fn.batch ≤ vec_capacity l.batch;
  none_in_hand : length l.batch.items < l.fn.max → l.hand.items ≡ [];
  spares : All IsSpare l.spares.items;
  full : l.fn.max ≤ length l.fn.batch.items → (l.batch.items ≡ l.fn.batch.items) × (l.hand.items ≡ l.fn.hand.items);
}
