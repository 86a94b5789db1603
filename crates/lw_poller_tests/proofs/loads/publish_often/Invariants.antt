use Rattle.std.proofs.Common.{◌≤◌, ◌*◌}
use Rattle.lw_poller_tests.proofs.loads.publish_often.Given as goal

abbrev pub invariant-loop-busy : goal.invariant-loop-busy
invariant-loop-busy g l = (l.pass.busy ≤ l.busy) × (l.pass.idle ≤ 2 * l.busy)
