use Rattle.std.proofs.Common.{rules}
use Rattle.lw_latch.proofs.RingSteps.{looks}
use Rattle.lw_latch.proofs.ring.LatchRecv.learn.Goals as goal

pub load-requires : goal.load-requires
load-requires c = (search rules, search rules, looks _ _ _)
