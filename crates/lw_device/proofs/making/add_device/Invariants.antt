use Rattle.std.proofs.Common.{◌≡◌, ◌<◌, ◌≤◌, ℕ, [], ◌∷◌, ◌++◌, drop, length}
use Rattle.std.specs.Prelude.{slice_index_or}
use Rattle.std.specs.Vec.Iter.{into_iter_items}
use Rattle.lw_latch.specs.DeviceEnds.{SeatEnd}
use Rattle.lw_device.specs.Rows.{Row}
use Rattle.lw_device.proofs.making.add_device.Given as goal

abbrev pub invariant-loop-seat : goal.invariant-loop-seat
invariant-loop-seat l =
    (l.thread ≤ length l.initial.rows)
    × (length l.rows ≡ length l.initial.rows)
    × (into_iter_items l.seat-iterator ≡ drop l.thread l.fn.seats.items)
    × ((t : ℕ) (r : Row) (e : SeatEnd) → t < l.thread → slice_index_or l.rows t r ≡ record (slice_index_or l.initial.rows t r) { seats = (slice_index_or l.initial.rows t r).seats ++ slice_index_or l.fn.seats.items t e ∷ [] })
    × ((t : ℕ) (r : Row) → l.thread ≤ t → slice_index_or l.rows t r ≡ slice_index_or l.initial.rows t r)
