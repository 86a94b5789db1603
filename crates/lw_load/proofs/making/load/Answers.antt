use Rattle.std.proofs.Common.{rules}
use Rattle.lw_load.proofs.Steps.{begins, makes}
use Rattle.lw_load.proofs.making.load.Goals as goal

pub ruled-requires : goal.ruled-requires
ruled-requires c = (search rules, (search rules, begins))

pub split_pass-reading-requires : goal.split_pass-reading-requires
split_pass-reading-requires c = (search rules, (search rules, (search rules, makes _ _)))
