use Rattle.std.proofs.Common.{[], subst}
use Rattle.lw_judge.specs.Walked.{IsWalkedTo}
use Rattle.lw_judge_threads.proofs.Threads.{all_gone, no_lines, read_at}
use Rattle.lw_judge.proofs.walk.Walk.go_through_all.Goals as goal

pub go_through-requires-clause-told : goal.go_through-requires-clause-told
go_through-requires-clause-told c =
    (read_at c.args.of.now c.args.layout.now c.loop-thread.thread _ c.index-as_slice-thread.result no_lines c.requires.lines c.loop-thread-test.true c.as_slice.ensures c.index-as_slice-thread.is).here

pub go_through-requires-clause-lines : goal.go_through-requires-clause-lines
go_through-requires-clause-lines c =
    (read_at c.args.of.now c.args.layout.now c.loop-thread.thread _ c.index-as_slice-thread.result no_lines c.requires.lines c.loop-thread-test.true c.as_slice.ensures c.index-as_slice-thread.is).stands

pub returns : goal.returns
returns c = subst (λ n. IsWalkedTo c.args.of.now n [] c.loop-thread.self)
    (all_gone c.args.of.now c.args.layout.now c.loop-thread.thread c.requires.lines c.loop-thread-test.false c.loop-thread.auto.thread-end) c.loop-thread.invariant
