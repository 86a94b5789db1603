use Rattle.std.proofs.Common.{◌≡◌, ◌<◌, ℕ, length, None}
use Rattle.std.specs.Prelude.{slice_index_or}
use Rattle.std.specs.Arc.{arc_value}
use Rattle.crossbeam_queue.specs.SegTies.{IsSegPassOf}
use Rattle.lw_ring.specs.Queue.{receiver}
use Rattle.lw_ring.specs.Ends.{Sender, new_sender}
use Rattle.lw_ring.proofs.making.open_ring_as.Given as goal

abbrev pub invariant-loop-sender : goal.invariant-loop-sender
invariant-loop-sender g l = record {
  of_queue : IsSegPassOf (arc_value l.shared).queue l.pass;
  knows : l.pass.me.view.client ≡ receiver g.B.Naming.number g.B.Naming.family l.sender;
  count : length l.ends.items ≡ l.sender;
  ends : (k : ℕ) (d : Sender g.row.T-Letter.Denot g.row.T-Family.Denot) → k < l.sender → slice_index_or l.ends.items k d ≡ new_sender (arc_value l.shared).queue None g.B.Naming.number g.B.Naming.family k;
}
