use Rattle.std.proofs.Common.{◌≡◌, ◌≤◌}
use Rattle.pool_bench.proofs.images.writes.Given as goal

abbrev pub invariant-loop-round : goal.invariant-loop-round
invariant-loop-round l =
    (l.image.block ≡ 512) × (l.image.blocks ≡ 16384) × (l.image.writes ≤ l.round)
