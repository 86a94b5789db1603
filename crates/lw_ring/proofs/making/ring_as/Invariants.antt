use Rattle.std.proofs.Common.{◌≡◌, ◌+◌, ◌<◌, ℕ, length, All, Some}
use Rattle.std.specs.Prelude.{slice_index_or}
use Rattle.std.specs.Arc.{arc_value}
use Rattle.crossbeam_queue.specs.SegTies.{IsSegPassOf}
use Rattle.lw_latch.specs.RingEnds.{RingEnd}
use Rattle.lw_latch.specs.RingWord.{sender_view}
use Rattle.lw_ring.specs.Queue.{receiver}
use Rattle.lw_ring.specs.Ends.{Sender, new_sender}
use Rattle.lw_ring.proofs.making.ring_as.Given as goal

abbrev pub invariant-loop-sender : goal.invariant-loop-sender
invariant-loop-sender g l = record {
  of_queue : IsSegPassOf (arc_value l.shared).queue l.pass;
  knows : l.pass.me.view.client ≡ receiver g.B.Naming.number g.B.Naming.family l.sender;
  count : length l.ends.items ≡ l.sender;
  ends : (k : ℕ) (d : Sender g.row.T-Letter.Denot g.row.T-Family.Denot) → k < l.sender → slice_index_or l.ends.items k d ≡ new_sender (arc_value l.shared).queue (Some l.latch-inside.seat.table_id) g.B.Naming.number g.B.Naming.family k;
  latches_left : length l.latches.items + l.sender ≡ l.senders;
  latches : All (λ (s : RingEnd). s ≡ record { latch = l.latch-inside.seat.table_id; view = sender_view }) l.latches.items;
}
