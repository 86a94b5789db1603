use Rattle.std.proofs.Common.{◌≡◌, ℕ, ◌*◌, ◌≤◌, length, take, slice_index}
use Rattle.lw_base.specs.Plan.{core_load}
use Rattle.lw_sched.specs.Sums.{Tells}
use Rattle.lw_sched.proofs.planning.core_loads.Given as goal

abbrev pub invariant-loop-row : goal.invariant-loop-row
invariant-loop-row l = record {
  count : length l.sums.items ≡ l.reactors;
  each : Tells (core_load (take l.row-index l.rows)) l.sums.items;
  most : (c : ℕ) → slice_index l.sums.items c ≤ 100 * l.row-index;
}
