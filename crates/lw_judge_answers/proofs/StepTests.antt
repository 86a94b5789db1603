-- The first failing line of the steps of a thread, with one step more.
use Rattle.std.proofs.Common.{◌≡◌, ℕ, ◌+◌, ◌-◌, ◌<◌, ◌^◌, min, Bool, true, false, cond, List, [], ◌∷◌, length, Some, None, sym, ap, ◌∙◌, arith}
use Rattle.lw_model.specs.declared.record.Record.{Record}
use Rattle.lw_model.specs.declared.record.Did.{Did}
use Rattle.lw_model.specs.declared.step.Step.{Step}
use Rattle.lw_model.specs.declared.step.Step.TheVariants as step
use Rattle.lw_model.specs.Threads.{did_of}
use Rattle.lw_model.specs.Lines.{did_line}
use Rattle.lw_model.specs.Answers.{did_fits}
use Rattle.lw_model.specs.Verdict.{least_failing, step_test}
use Rattle.lw_judge_threads.specs.declared.lines.ThreadLines.{ThreadLines}
use Rattle.lw_judge_threads.specs.Firsts.{lesser}
use Rattle.lw_judge_threads.specs.Folded.{folded}
use Rattle.lw_judge_threads.specs.LinesOf.{StandsAt}
use Rattle.lw_judge_threads.proofs.Leasts.{least-append, least-one, lesser_none}

-- a `did` line, by whether it fits
did_tested : (r : Record) (t : ℕ) (past : List Step) (i : ℕ) (x : Did) (b : Bool) → did_fits r t past i x ≡ b
    → least_failing (folded (step_test r t) (step.Did i x ∷ past)) ≡ lesser (least_failing (folded (step_test r t) past)) (cond b None (Some (did_line r t i)))
did_tested r t past i x b is =
    least-append (folded (step_test r t) past) ((did_line r t i, did_fits r t past i x) ∷ [])
    ∙ ap (lesser (least_failing (folded (step_test r t) past))) (least-one (did_line r t i) (did_fits r t past i x) ∙ ap (λ c. cond c None (Some (did_line r t i))) is)

-- one that fits
pub did_passed : (r : Record) (t : ℕ) (past : List Step) (s : Step) (i : ℕ) (x : Did) → s ≡ step.Did i x → did_fits r t past i x ≡ true
    → least_failing (folded (step_test r t) past) ≡ least_failing (folded (step_test r t) (s ∷ past))
did_passed r t past s i x at is =
    sym (ap (λ z. least_failing (folded (step_test r t) (z ∷ past))) at ∙ did_tested r t past i x true is ∙ lesser_none (least_failing (folded (step_test r t) past)))

-- one that doesn't
pub did_failed : (r : Record) (t : ℕ) (past : List Step) (s : Step) (i : ℕ) (x : Did) → s ≡ step.Did i x → did_fits r t past i x ≡ false
    → lesser (least_failing (folded (step_test r t) past)) (Some (did_line r t i)) ≡ least_failing (folded (step_test r t) (s ∷ past))
did_failed r t past s i x at is = sym (ap (λ z. least_failing (folded (step_test r t) (z ∷ past))) at ∙ did_tested r t past i x false is)

-- the number of its line
pub did_line_is : (r : Record) (t i : ℕ) (l : ThreadLines) → StandsAt r t l → i < length (did_of r t) → min (l.did + i) (2 ^ 64 - 1) ≡ did_line r t i
did_line_is r t i l stands less = omega (arith, stands.did, stands.follow, stands.few, less)
