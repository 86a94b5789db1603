use Rattle.std.proofs.Common.{[], get_or, ap, ap₂, ◌∙◌, arith}
use Rattle.lw_model.specs.Moves.{hop_fits}
use Rattle.lw_judge_threads.specs.Firsts.{first_unfit, lesser}
use Rattle.lw_judge_threads.proofs.ThreadCounts.{few_threads}
use Rattle.lw_judge_threads.proofs.Threads.{all_gone, all_threads, home_tests, no_lines, read_at, some_reactor}
use Rattle.lw_model.proofs.Printed.{parts}
use Rattle.lw_judge_rounds.proofs.Homes.{homes_more, hops_within}
use Rattle.lw_judge_rounds.proofs.hops.first_misplaced.Goals as goal

pub nonzero_rem-is_home : goal.nonzero_rem-is_home
nonzero_rem-is_home c = some_reactor c.args.of.now

pub overflow_cast-thread : goal.overflow_cast-thread
overflow_cast-thread c = omega (arith, c.loop-thread-test.true, c.requires.lines.count, (parts c.args.of.now).threads, few_threads c.args.of.now)

pub at_line-requires : goal.at_line-requires
at_line-requires c =
    let r = c.args.of.now in
    let t = c.loop-thread.thread in
    let x = c.index-as_slice-thread.result in
    let is = read_at r c.args.layout.now t _ x no_lines c.requires.lines c.loop-thread-test.true c.as_slice.ensures c.index-as_slice-thread.is in
    hops_within r t x (get_or c.args.layout.now t no_lines) c.unfit_hop-unfit.result is
    (c.unfit_hop-unfit.ensures r c.requires.orders ∙ ap (first_unfit (hop_fits r t) 0 []) c.as_slice-in-loop-thread.ensures)

pub loop-thread-preserved : goal.loop-thread-preserved
loop-thread-preserved c =
    let r = c.args.of.now in
    let t = c.loop-thread.thread in
    let x = c.index-as_slice-thread.result in
    let l = get_or c.args.layout.now t no_lines in
    let is = read_at r c.args.layout.now t _ x no_lines c.requires.lines c.loop-thread-test.true c.as_slice.ensures c.index-as_slice-thread.is in
    homes_more r t x l c.loop-thread.least c.lesser-least.result c.lesser.result c.unfit_hop-unfit.result is c.loop-thread.invariant
    (c.unfit_hop-unfit.ensures r c.requires.orders ∙ ap (first_unfit (hop_fits r t) 0 []) c.as_slice-in-loop-thread.ensures)
    (c.lesser.ensures ∙ ap₂ lesser c.failing-homeless.ensures c.at_line.ensures) c.lesser-least.ensures

pub returns : goal.returns
returns c = all_threads c.args.of.now (home_tests c.args.of.now) c.loop-thread.thread c.loop-thread.least (all_gone c.args.of.now c.args.layout.now c.loop-thread.thread c.requires.lines c.loop-thread-test.false c.loop-thread.auto.thread-end) c.loop-thread.invariant
