use Rattle.std.proofs.Common.{map}
use Rattle.lw_judge_answers.proofs.Ats.{fits_first, fits_more, misfit_below, misfit_above, no_misfit}
use Rattle.lw_judge_answers.proofs.thread_answers.unfit_called.Goals as goal
use Rattle.lw_judge_answers.proofs.thread_answers.unfit_called.Goals.{then-line-before-via-then-line-before, then-line-before-via-else-line-before+then-line-ran}

pub loop-place-init : goal.loop-place-init
loop-place-init c = fits_first c.args.ran (map (λ x. x.at) c.args.calleds.now)

pub loop-place-preserved : goal.loop-place-preserved
loop-place-preserved c = fits_more (λ x. x.at) c.args.ran c.args.calleds.now c.loop-place.place c.loop-place.before _ c.loop-place.invariant c.loop-place-test.true c.if-line-before.false c.if-line-ran.false

pub returns-then-line-before : goal.returns-then-line-before
returns-then-line-before c = elim c.then-line-before.branch [
  | then-line-before-via-then-line-before w ↦ misfit_below (λ x. x.at) c.args.ran c.args.calleds.now c.loop-place.place c.loop-place.before _ c.loop-place.invariant c.loop-place-test.true w.if-line-before.true
  | then-line-before-via-else-line-before+then-line-ran w ↦ misfit_above (λ x. x.at) c.args.ran c.args.calleds.now c.loop-place.place c.loop-place.before _ c.loop-place.invariant c.loop-place-test.true w.if-line-ran.true
]

pub returns : goal.returns
returns c = no_misfit (λ x. x.at) c.args.ran c.args.calleds.now c.loop-place.place c.loop-place.before c.loop-place.invariant c.loop-place-test.false
