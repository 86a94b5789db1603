use Rattle.std.proofs.Common.{◌≡◌, IsSome}
use Rattle.lw_tests.proofs.rings.take_all.Given as goal

abbrev pub invariant-loop : goal.invariant-loop
invariant-loop g l = IsSome l.recv.latch × (l.recv.closed ≡ 0)
