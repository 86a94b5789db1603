use Rattle.std.proofs.Common.{◌<◌, Some, length, sym, ap₂, subst, ◌∙◌}
use Rattle.lw_model.specs.Threads.{did_of}
use Rattle.lw_judge_threads.specs.Firsts.{lesser}
use Rattle.lw_judge_threads.specs.LinesOf.{IsPlaced}
use Rattle.lw_judge_answers.proofs.StepTests.{did_passed, did_failed, did_line_is}
use Rattle.lw_judge_answers.proofs.answers.Answering.least_with.Goals as goal

pub returns-then-did_fits : goal.returns-then-did_fits
returns-then-did_fits c = λ past stands placed holds was.
    was.first ∙ did_passed c.args.of.now c.args.thread past c.args.step.now c.in-Did.place c.in-Did.line c.in-Did.is
    (sym (c.did_fits.ensures past holds was.knows) ∙ c.if-did_fits.true)

pub returns : goal.returns
returns c = λ past stands placed holds was.
    let r = c.args.of.now in
    let t = c.args.thread in
    let less : c.in-Did.place < length (did_of r t) = subst (IsPlaced r t) c.in-Did.is placed in
    c.lesser.ensures
    ∙ ap₂ (λ o n. lesser o (Some n)) was.first (c.saturating_add.ensures ∙ did_line_is r t c.in-Did.place c.args.lines.now stands less)
    ∙ did_failed r t past c.args.step.now c.in-Did.place c.in-Did.line c.in-Did.is (sym (c.did_fits.ensures past holds was.knows) ∙ c.if-did_fits.false)
