use Rattle.std.proofs.Common.{◌≡◌, ◌<◌, ℕ, length}
use Rattle.std.specs.Prelude.{slice_index_or}
use Rattle.lw_load.specs.LoadEnds.{LoadEnd, Known, new_pass, not_read}
use Rattle.lw_load.proofs.making.loads.Given as goal

abbrev pub invariant-loop-thread : goal.invariant-loop-thread
invariant-loop-thread l =
    (length l.passes.items ≡ l.thread)
    × (length l.rows.items ≡ l.thread)
    × ((k : ℕ) (r : Known) → k < l.thread → slice_index_or l.rows.items k r ≡ not_read (slice_index_or l.rows.items k r).cell)
    × ((k : ℕ) (p : LoadEnd) (r : Known) → k < l.thread → slice_index_or l.passes.items k p ≡ new_pass (slice_index_or l.rows.items k r).cell k)
