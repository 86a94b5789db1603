use Rattle.std.proofs.Common.{◌≡◌, length}
use Rattle.lw_event_tests.proofs.sleeping.ask_often.Given as goal

abbrev pub invariant-loop : goal.invariant-loop
invariant-loop g l = length l.own.wakers ≡ 2
