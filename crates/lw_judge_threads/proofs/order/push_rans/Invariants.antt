use Rattle.std.proofs.Common.{◌≡◌, ◌++◌, map, take}
use Rattle.std.specs.List.{enumerate_from}
use Rattle.lw_model.specs.declared.step.Step.TheVariants as step
use Rattle.lw_judge_threads.proofs.order.push_rans.Given as goal

abbrev pub invariant-loop-place : goal.invariant-loop-place
invariant-loop-place l = l.steps.items ≡ l.initial.steps.items ++ map (λ p. step.Ran p.0 p.1) (enumerate_from 0 (take l.place l.rans))
