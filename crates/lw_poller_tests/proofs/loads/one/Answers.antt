use Rattle.std.proofs.Common.{arith}
use Rattle.lw_poller_tests.proofs.NewPasses.{new_pass_of}
use Rattle.lw_poller_tests.proofs.loads.one.Goals as goal

pub returns-clause-thread : goal.returns-clause-thread
returns-clause-thread c = new_pass_of 1 0 _ _ _ c.in_ok-passes.ensures (omega arith) c.remove-pass.ensures.value
