use Rattle.std.proofs.Common.{[], get_or, sym, ap, ◌∙◌}
use Rattle.lw_model.specs.declared.record.ThreadRecord.{ThreadRecord}
use Rattle.lw_model.specs.Moves.{number_fits}
use Rattle.lw_judge_threads.specs.Firsts.{at_line, first_unfit}
use Rattle.lw_judge_threads.proofs.Threads.{all_gone, all_threads, no_lines, numbers_more, numbers_within, read_at}
use Rattle.lw_judge.proofs.numbers.numbers.Goals as goal

pub at_line-requires : goal.at_line-requires
at_line-requires c =
    let is = read_at c.args.of.now c.args.layout.now c.loop-thread.thread _ c.index-as_slice-thread.result no_lines c.requires c.loop-thread-test.true c.as_slice.ensures c.index-as_slice-thread.is in
    numbers_within c.args.of.now c.loop-thread.thread c.index-as_slice-thread.result _ c.in_ok-place.place is
    (c.in_ok-place.ensures ∙ ap (first_unfit number_fits 0 []) (c.as_slice-in-loop-thread.ensures ∙ ap (λ (y : ThreadRecord). y.ran) (sym c.index-as_slice-thread.is)))

pub loop-thread-preserved : goal.loop-thread-preserved
loop-thread-preserved c =
    let is = read_at c.args.of.now c.args.layout.now c.loop-thread.thread _ c.index-as_slice-thread.result no_lines c.requires c.loop-thread-test.true c.as_slice.ensures c.index-as_slice-thread.is in
    let l = get_or c.args.layout.now c.loop-thread.thread no_lines in
    numbers_more c.args.of.now c.loop-thread.thread c.index-as_slice-thread.result l c.loop-thread.least c.lesser-least.result c.at_line.result is c.loop-thread.invariant
    (c.at_line.ensures ∙ ap (at_line l.ran) (c.in_ok-place.ensures ∙ ap (first_unfit number_fits 0 []) (c.as_slice-in-loop-thread.ensures ∙ ap (λ (y : ThreadRecord). y.ran) (sym c.index-as_slice-thread.is)))) c.lesser-least.ensures

pub returns : goal.returns
returns c = all_threads c.args.of.now _ c.loop-thread.thread c.loop-thread.least (all_gone c.args.of.now c.args.layout.now c.loop-thread.thread c.requires c.loop-thread-test.false c.loop-thread.auto.thread-end) c.loop-thread.invariant
