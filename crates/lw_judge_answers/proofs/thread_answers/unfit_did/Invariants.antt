use Rattle.std.proofs.Common.{map}
use Rattle.lw_judge_answers.proofs.Ats.{FitsSoFar}
use Rattle.lw_judge_answers.proofs.thread_answers.unfit_did.Given as goal

abbrev pub invariant-loop-place : goal.invariant-loop-place
invariant-loop-place l = FitsSoFar l.ran (map (λ x. x.at) l.dids) l.place l.before
