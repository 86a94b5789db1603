use Rattle.std.proofs.Common.{◌≡◌, ◌≤◌, length, filter, slice_index}
use Rattle.lw_base.specs.Masks.{allows}
use Rattle.lw_sched.specs.BestOf.{best_of, IsBelow}
use Rattle.lw_sched.proofs.Looks.{behind}
use Rattle.lw_sched.proofs.best.Best.of.Given as goal

-- the reactors from this one on, and 0, were looked at
abbrev pub invariant-loop-reactor : goal.invariant-loop-reactor
invariant-loop-reactor l = record {
  some : 1 ≤ l.reactor;
  within : l.reactor ≤ length l.planned;
  best : l.best ≡ best_of l.mover (slice_index l.planned) (filter (allows l.mover.mask (length l.planned)) (behind (length l.planned) l.reactor));
  below : IsBelow (length l.planned) l.best;
}

abbrev pub decreases-loop-reactor : goal.decreases-loop-reactor
decreases-loop-reactor l = l.reactor
