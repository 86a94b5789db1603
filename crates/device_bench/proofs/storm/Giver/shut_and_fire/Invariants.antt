use Rattle.std.proofs.Common.{◌≡◌, ◌≤◌}
use Rattle.device_bench.proofs.storm.Giver.shut_and_fire.Given as goal

abbrev pub invariant-loop : goal.invariant-loop
invariant-loop g l = (1 ≤ l.self.seat.view.begun) × (l.self.seat.began_by ≡ l.self.seat.number)
