use Rattle.std.proofs.Common.{rules}
use Rattle.lw_place.proofs.Steps.{learns_halt}
use Rattle.lw_place.proofs.bundle.Bundle.halted.Goals as goal

pub load-requires : goal.load-requires
load-requires c = (search rules, search rules, learns_halt _ _ _ _ c.self.invariant.knows.some_threads)
