use Rattle.lw_model.specs.declared.step.Step.TheVariants as step
use Rattle.lw_judge_threads.proofs.Numbered.{one_more}
use Rattle.lw_judge_threads.proofs.order.push_rans.Goals as goal

pub loop-place-preserved : goal.loop-place-preserved
loop-place-preserved c = one_more (λ i x. step.Ran i x) _ _ _ c.args.rans.now c.loop-place.place _ c.loop-place-test.true c.loop-place.invariant c.in_ok-push.ensures.items
