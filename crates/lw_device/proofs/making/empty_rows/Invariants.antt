use Rattle.std.proofs.Common.{◌≡◌, ◌<◌, ℕ, [], length}
use Rattle.std.specs.Prelude.{slice_index_or}
use Rattle.lw_device.specs.Rows.{Row, new_row}
use Rattle.lw_device.proofs.making.empty_rows.Given as goal

abbrev pub invariant-loop-thread : goal.invariant-loop-thread
invariant-loop-thread l =
    (length l.rows.items ≡ l.thread)
    × ((t : ℕ) (r : Row) → t < l.thread → slice_index_or l.rows.items t r ≡ new_row [] t)
