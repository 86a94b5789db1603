use Rattle.std.proofs.Common.{◌≡◌, ◌<◌, ◌≤◌, ℕ, drop, length}
use Rattle.std.specs.Prelude.{slice_index_or}
use Rattle.std.specs.Vec.Iter.{into_iter_items}
use Rattle.lw_base.specs.declared.ends.DeviceEnd.{DeviceEnd}
use Rattle.lw_device.specs.Rows.{IsEndOf, seat_of}
use Rattle.lw_device.proofs.settling.all_ends.Given as goal

abbrev pub invariant-loop-seat : goal.invariant-loop-seat
invariant-loop-seat l =
    (length l.ends.items ≤ length l.fn.whole.seats)
    × (into_iter_items l.seat-iterator ≡ drop (length l.ends.items) l.fn.whole.seats)
    × ((d : ℕ) (x : DeviceEnd) → d < length l.ends.items → IsEndOf (seat_of l.fn.whole d) (slice_index_or l.ends.items d x))
