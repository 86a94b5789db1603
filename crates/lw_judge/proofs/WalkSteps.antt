-- A thread's steps, one after another.
use Rattle.std.proofs.Common.{◌≡◌, ℕ, zero, suc, ◌+◌, ◌<◌, ◌≤◌, List, [], ◌∷◌, ◌++◌, length, map, get_or, reverse, take, Some, slice_get, ap, ◌∙◌, arith}
use Rattle.std.specs.List.{AllByRecursion, enumerate_from}
use Rattle.std.proofs.lemmas.List.{take_all}
use Rattle.lw_base.specs.declared.message.Tag.{Tag}
use Rattle.lw_model.specs.declared.record.Called.{Called}
use Rattle.lw_model.specs.declared.record.Did.{Did}
use Rattle.lw_model.specs.declared.record.Record.{Record}
use Rattle.lw_model.specs.declared.record.ThreadRecord.{ThreadRecord}
use Rattle.lw_model.specs.declared.step.Step.{Step}
use Rattle.lw_model.specs.declared.step.Step.TheVariants as step
use Rattle.lw_model.specs.declared.record.Answer.TheVariants as answer
use Rattle.lw_model.specs.OwnOrder.{own_order, own_order_of, steps_of}
use Rattle.lw_model.specs.Threads.{did_of}
use Rattle.lw_model.proofs.Growth.{all-append, all-in_order}
use Rattle.lw_judge_threads.specs.LinesOf.{IsPlaced}
use Rattle.lw_judge_threads.proofs.Threads.{listed}

-- what holds of each item of a list
pub all_at : {X : Type 0} (P : X → Type 0) (xs : List X) (i : ℕ) (d : X) → AllByRecursion P xs → i < length xs → P (get_or xs i d)
all_at P [] i d all less = absurd (omega (arith, less))
all_at P (x ∷ xs) zero d all less = all.0
all_at P (x ∷ xs) (suc i) d all less = all_at P xs i d all.1 (omega (arith, less))

dids_placed : (r : Record) (t n : ℕ) (xs : List Did) → n + length xs ≡ length (did_of r t) → AllByRecursion (IsPlaced r t) (map (λ p. step.Did p.0 p.1) (enumerate_from n xs))
dids_placed r t n [] e = tt
dids_placed r t n (x ∷ xs) e = (omega (arith, e), dids_placed r t (n + 1) xs (omega (arith, e)))

calleds_placed : (r : Record) (t n : ℕ) (xs : List Called) → AllByRecursion (IsPlaced r t) (map (λ p. step.Called p.0 p.1) (enumerate_from n xs))
calleds_placed r t n [] = tt
calleds_placed r t n (x ∷ xs) = (tt, calleds_placed r t (n + 1) xs)

rans_placed : (r : Record) (t n : ℕ) (xs : List Tag) → AllByRecursion (IsPlaced r t) (map (λ p. step.Ran p.0 p.1) (enumerate_from n xs))
rans_placed r t n [] = tt
rans_placed r t n (x ∷ xs) = (tt, rans_placed r t (n + 1) xs)

-- each step of a thread's own order is one of its lines
pub placed : (r : Record) (t : ℕ) (x : ThreadRecord) → slice_get r.threads t ≡ Some x → AllByRecursion (IsPlaced r t) (own_order x)
placed r t x at = all-in_order (IsPlaced r t) (steps_of x)
    (all-append (IsPlaced r t) (map (λ p. step.Did p.0 p.1) (enumerate_from 0 x.did) ++ map (λ p. step.Called p.0 p.1) (enumerate_from 0 x.called)) (map (λ p. step.Ran p.0 p.1) (enumerate_from 0 x.ran))
    (all-append (IsPlaced r t) (map (λ p. step.Did p.0 p.1) (enumerate_from 0 x.did)) (map (λ p. step.Called p.0 p.1) (enumerate_from 0 x.called)) (dids_placed r t 0 x.did count) (calleds_placed r t 0 x.called))
    (rans_placed r t 0 x.ran))
  where
    count : 0 + length x.did ≡ length (did_of r t)
    count = omega (arith, ap length (listed (λ x. x.did) r t x at))

-- behind all steps of a thread
pub whole : (r : Record) (t : ℕ) (steps : List Step) (n : ℕ) → steps ≡ own_order_of r t → length steps ≤ n → reverse (take n steps) ≡ reverse (own_order_of r t)
whole r t steps n are all = ap reverse (take_all n steps all ∙ are)

-- what stands where there is no step
abbrev pub no_step : Step
no_step = step.Did 0 (record { at = 0; op = 0; answer = answer.Given 0 })
