use Rattle.std.proofs.Common.{arith}
use Rattle.lw_sched.proofs.Loads.{part_most}
use Rattle.lw_sched.proofs.load.load_of.Goals as goal

-- The quotient fits, since it is at most 100.
pub overflow_cast-result : goal.overflow_cast-result
overflow_cast-result c = omega (arith, part_most c.args.busy c.args.idle (omega arith))

pub returns-clause-most : goal.returns-clause-most
returns-clause-most c = omega (arith, part_most c.args.busy c.args.idle (omega arith))
