use Rattle.std.proofs.Common.{◌≡◌}
use Rattle.lw_pool.specs.declared.class.Class.TheVariants.{Large}
use Rattle.pool_bench.proofs.images.reads.Given as goal

abbrev pub invariant-loop-round : goal.invariant-loop-round
invariant-loop-round g l = l.buffer.class ≡ Large
