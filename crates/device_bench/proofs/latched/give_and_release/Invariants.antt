use Rattle.std.proofs.Common.{◌≡◌, ◌≤◌}
use Rattle.device_bench.proofs.latched.give_and_release.Given as goal

abbrev pub invariant-loop-round : goal.invariant-loop-round
invariant-loop-round l = (l.seat.view.channel ≡ 0) × (l.seat.view.gives ≤ l.round)
