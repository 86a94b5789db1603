use Rattle.std.proofs.Common.{◌≡◌, length}
use Rattle.lw_poller_tests.proofs.loads.read_often.Given as goal

abbrev pub invariant-loop : goal.invariant-loop
invariant-loop g l = length l.reader ≡ 1
