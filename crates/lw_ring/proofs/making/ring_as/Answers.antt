use Rattle.std.proofs.Common.{rules, ◌≡◌, ◌∙◌, [], ◌∷◌, length, Some, ap, arith, length-append}
use Rattle.std.specs.Arc.{arc_value}
use Rattle.lw_latch.specs.RingEnds.{RingEnd}
use Rattle.lw_latch.specs.RingWord.{sender_view}
use Rattle.lw_ring.specs.Ends.{Sender, new_sender}
use Rattle.lw_ring.proofs.Rows.{push_each, split_last}
use Rattle.lw_ring.proofs.making.ring_as.Goals as goal

pub loop-sender-preserved : goal.loop-sender-preserved
loop-sender-preserved g c =
    let i = c.loop-sender.invariant in
    let S : Type 0 = Sender g.row.T-Letter.Denot g.row.T-Family.Denot in
    let latch = c.latch.inside.seat.table_id in
    let rest = split_last (λ (s : RingEnd). s ≡ record { latch = latch; view = sender_view }) _ _ _ c.next-theirs.ensures i.latches in
    let deal = c.in_ok-deal.ensures in
    let end : c.in_ok-deal.field-0 ≡ new_sender (arc_value c.in_ok-shared.shared).queue (Some latch) g.B.Naming.number g.B.Naming.family c.loop-sender.sender =
    deal.end ∙ (λ k. new_sender (arc_value c.in_ok-shared.shared).queue (Some ((ap (λ (s : RingEnd). s.latch) rest.1) k)) (i.knows k).number (i.knows k).family c.loop-sender.sender) in
    record {
      of_queue = search rules;
      knows = search rules;
      count = search rules;
      ends = push_each (λ k (e : S). e ≡ new_sender (arc_value c.in_ok-shared.shared).queue (Some latch) g.B.Naming.number g.B.Naming.family k) _ _ _ _ (c.in_ok-push.ensures.items) i.count i.ends end;
      latches_left = (let shorter = ap length c.next-theirs.ensures in let len = length-append c.next-theirs.new.latches.items (c.next-theirs.result ∷ []) in let was = i.latches_left in omega arith);
      latches = rest.0;
    }
