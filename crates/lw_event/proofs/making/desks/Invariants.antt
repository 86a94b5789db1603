use Rattle.std.proofs.Common.{◌≡◌, length}
use Rattle.std.specs.Vec.Iter.{into_iter_items}
use Rattle.lw_event.proofs.Begun.{AreMade}
use Rattle.lw_event.proofs.making.desks.Given as goal

abbrev pub invariant-loop-recv : goal.invariant-loop-recv
invariant-loop-recv g l =
    ((goal.iterator-loop-recv g).can_next l.recv-iterator)
    × ((goal.iterator-loop-recv g).is_finite l.recv-iterator)
    × (l.number ≡ length l.desks.items)
    × AreMade (λ v. v.items) l.fn.recvs.items (into_iter_items l.recv-iterator) l.fn.rows.items (into_iter_items l.rows) l.desks.items
