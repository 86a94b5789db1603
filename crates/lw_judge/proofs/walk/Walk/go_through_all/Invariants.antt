use Rattle.std.proofs.Common.{[]}
use Rattle.lw_judge.specs.Walked.{IsWalkedTo}
use Rattle.lw_judge.proofs.walk.Walk.go_through_all.Given as goal

abbrev pub invariant-loop-thread : goal.invariant-loop-thread
invariant-loop-thread l = IsWalkedTo l.of l.thread [] l.self
