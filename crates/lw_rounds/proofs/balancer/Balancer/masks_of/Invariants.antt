use Rattle.std.proofs.Common.{◌≡◌, take}
use Rattle.lw_rounds.specs.Rounds.{masks_of}
use Rattle.lw_rounds.proofs.balancer.Balancer.masks_of.Given as goal

abbrev pub invariant-loop-row : goal.invariant-loop-row
invariant-loop-row l = record {
  so_far : l.masks.items ≡ masks_of l.self.masks (take l.row-index l.rows);
}
