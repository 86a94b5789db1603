use Rattle.std.proofs.Common.{◌≡◌, length, reverse}
use Rattle.std.specs.Vec.Iter.{into_iter_items, into_iter_len}
use Rattle.lw_event.proofs.Left.{AreSettled}
use Rattle.lw_event.proofs.settling.settle_each.Given as goal

abbrev pub invariant-loop-inbox : goal.invariant-loop-inbox
invariant-loop-inbox g l =
    ((goal.iterator-loop-inbox g).can_next l.inbox-iterator)
    × ((goal.iterator-loop-inbox g).is_finite l.inbox-iterator)
    × AreSettled l.fn.inboxes.items (into_iter_items l.inbox-iterator) l.fn.columns.items (into_iter_items l.columns) l.left.items (λ i. i.recv) (λ i. reverse i.batch.items) (λ c. c.items)
    × (into_iter_len l.inbox-iterator ≡ length (into_iter_items l.inbox-iterator))
