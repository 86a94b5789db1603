use Rattle.std.proofs.Common.{reverse, take}
use Rattle.lw_judge.specs.Walked.{IsGoingAt, IsWalkedTo}
use Rattle.lw_judge.proofs.walk.Walk.go_along.Given as goal

abbrev pub invariant-loop-step : goal.invariant-loop-step
invariant-loop-step l = record {
  going : IsGoingAt l.of l.thread (reverse (take l.step-index l.steps)) l.going;
  walked : IsWalkedTo l.of l.thread (reverse (take l.step-index l.steps)) l.self;
}
