use Rattle.std.proofs.Common.{◌≡◌, ◌<◌, ◌≤◌, slice_index}
use Rattle.lw_sched.proofs.Looks.{allowed_from}
use Rattle.lw_sched.proofs.masks.lowest.Given as goal

-- the reactors from this one on were looked at
abbrev pub invariant-loop-reactor : goal.invariant-loop-reactor
invariant-loop-reactor l = record {
  within : l.reactor ≤ l.reactors;
  below : l.lowest < l.reactors;
  least : l.lowest ≡ slice_index (allowed_from l.mask l.reactors l.reactor) 0;
}

abbrev pub decreases-loop-reactor : goal.decreases-loop-reactor
decreases-loop-reactor l = l.reactor
