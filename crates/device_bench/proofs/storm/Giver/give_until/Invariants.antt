use Rattle.std.proofs.Common.{◌≡◌, ◌≤◌}
use Rattle.device_bench.proofs.storm.Giver.give_until.Given as goal

abbrev pub invariant-loop-round : goal.invariant-loop-round
invariant-loop-round l = (l.self.seat.view.channel ≡ 0) × (l.self.seat.view.gives ≤ l.round)
