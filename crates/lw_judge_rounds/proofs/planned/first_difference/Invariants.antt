use Rattle.std.proofs.Common.{◌≡◌, ◌≤◌, drop, length}
use Rattle.lw_judge_rounds.specs.Differences.{first_difference}
use Rattle.lw_judge_rounds.proofs.planned.first_difference.Given as goal

abbrev pub invariant-loop-place : goal.invariant-loop-place
invariant-loop-place l = record {
  low : l.place ≤ length l.plan;
  left : first_difference 0 l.plan l.orders ≡ first_difference l.place (drop l.place l.plan) (drop l.place l.orders);
}
