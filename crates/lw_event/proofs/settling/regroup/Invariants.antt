use Rattle.std.proofs.Common.{◌≡◌, length, reverse}
use Rattle.std.specs.Vec.Iter.{into_iter_items, into_iter_len}
use Rattle.lw_event.proofs.Left.{AreTaken}
use Rattle.lw_event.proofs.settling.regroup.Given as goal

abbrev pub invariant-loop-desk : goal.invariant-loop-desk
invariant-loop-desk g l =
    ((goal.iterator-loop-desk g).can_next l.desk-iterator)
    × ((goal.iterator-loop-desk g).is_finite l.desk-iterator)
    × AreTaken l.fn.desks.items (into_iter_items l.desk-iterator) l.inboxes.items l.columns.items (λ i. i.recv) (λ i. reverse i.batch.items) (λ c. c.items)
    × (into_iter_len l.desk-iterator ≡ length (into_iter_items l.desk-iterator))
