use Rattle.std.proofs.Common.{rules}
use Rattle.lw_load.proofs.Steps.{reads}
use Rattle.lw_load.proofs.reader.Row.read.Goals as goal

pub load_as-pair-requires : goal.load_as-pair-requires
load_as-pair-requires g c = (search rules, (search rules, (search rules, reads _ _ c.self.invariant.1)))
