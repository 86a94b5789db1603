use Rattle.std.proofs.Common.{◌≡◌, ℕ, ◌<◌, ◌≤◌, length, [], ◌∷◌, ◌++◌, drop}
use Rattle.std.specs.Prelude.{slice_index_or}
use Rattle.std.specs.Vec.Iter.{into_iter_items}
use Rattle.lw_event.proofs.rows.deal.Given as goal

abbrev pub invariant-loop-value : goal.invariant-loop-value
invariant-loop-value g l =
    ((goal.iterator-loop-value g).can_next l.value-iterator)
    × ((goal.iterator-loop-value g).is_finite l.value-iterator)
    × (into_iter_items l.value-iterator ≡ drop l.at l.fn.column.items)
    × (l.at ≤ length l.fn.column.items)
    × (length l.rows.items ≡ length l.fn.rows.items)
    × ((k : ℕ) (r : _) (x : g.row.X.Denot) → k < l.at → (slice_index_or l.rows.items k r).items ≡ (slice_index_or l.fn.rows.items k r).items ++ slice_index_or l.fn.column.items k x ∷ [])
    × ((k : ℕ) (r : _) → l.at ≤ k → k < length l.fn.rows.items → slice_index_or l.rows.items k r ≡ slice_index_or l.fn.rows.items k r)
