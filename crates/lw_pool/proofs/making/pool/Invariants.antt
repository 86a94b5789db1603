use Rattle.std.proofs.Common.{◌≡◌, ◌-◌, ◌<◌, ℕ, length}
use Rattle.std.specs.Prelude.{slice_index_or}
use Rattle.std.specs.Arc.{arc_value}
use Rattle.crossbeam_queue.specs.Passes.{view, IsPassOf, ruled_capacity}
use Rattle.lw_pool.specs.Sizes.{most_users}
use Rattle.lw_pool.specs.PoolRule.{new_view}
use Rattle.lw_pool.specs.PoolEnds.{Pool, PoolEnd, new_pass}
use Rattle.lw_pool.proofs.making.pool.Given as goal

abbrev pub invariant-loop-number : goal.invariant-loop-number
invariant-loop-number g l =
    let s = arc_value l.shared in
    let p : Pool = record { small = s.small.table.shared.table_id; large = s.large.table.shared.table_id; small_count = ruled_capacity s.small; large_count = ruled_capacity s.large; users = s.users } in
    IsPassOf s.small l.small_pass
    × IsPassOf s.large l.large_pass
    × (view l.small_pass ≡ new_view (most_users - l.number) (ruled_capacity s.small))
    × (view l.large_pass ≡ new_view (most_users - l.number) (ruled_capacity s.large))
    × (length l.passes.items ≡ l.number)
    × ((k : ℕ) (d : PoolEnd) → k < l.number → slice_index_or l.passes.items k d ≡ new_pass p k)
