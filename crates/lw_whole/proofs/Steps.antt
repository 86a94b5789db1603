-- Steps with and without the callbacks.
use Rattle.std.proofs.Common.{◌≡◌, ℕ, suc, ◌+◌, ◌==◌, nat_lt, Bool, true, cond, not, ◌&&◌, ◌||◌, List, [], ◌∷◌, ◌++◌, map, filter, length, Option, Some, None, slice_get, refl, sym, ap, ap₂, subst, ◌∙◌, arith}
use Rattle.std.specs.List.{list_all, AllByRecursion, enumerate_from}
use Rattle.std.proofs.lemmas.Bool.{and_parts, and_from}
use Rattle.std.proofs.lemmas.List.Sums.{sum_by-cons}
use Rattle.lw_base.specs.declared.message.Tag.{Tag}
use Rattle.lw_model.specs.declared.script.Script.{Script}
use Rattle.lw_model.specs.declared.script.Op.{Op}
use Rattle.lw_model.specs.declared.script.Op.TheVariants as op
use Rattle.lw_model.specs.declared.record.Answer.{Answer}
use Rattle.lw_model.specs.declared.record.Did.{Did}
use Rattle.lw_model.specs.declared.record.Called.{Called}
use Rattle.lw_model.specs.declared.record.ThreadRecord.{ThreadRecord}
use Rattle.lw_model.specs.declared.step.Step.{Step}
use Rattle.lw_model.specs.declared.step.Step.TheVariants as step
use Rattle.lw_model.specs.Threads.{is_on, depth_of}
use Rattle.lw_model.specs.OwnOrder.{own_order, with_past}
use Rattle.lw_model.specs.Holding.{is_sent, is_closed}
use Rattle.lw_model.specs.Answers.{unanswered_on, answer_fits, depth_fits, get_fits, put_fits, request_fits, unregister_fits}
use Rattle.lw_model.proofs.Growth.{all-in_order, all-append, dids, calleds, rans}
use Rattle.lw_model.proofs.Callbacks.{without, references-without, held-without, unanswered-without, without-own_order}
use Rattle.lw_whole.specs.Logs.{Log, steps}
use Rattle.lw_whole.specs.Lines.{is_a_did, dids_in}

-- the steps of a log are those of its lines but the callbacks
pub steps_are : (l : Log) → without (own_order l.lines) ≡ steps l
steps_are l = without-own_order l.lines

pub dids_without : (past : List Step) → dids_in past ≡ dids_in (without past)
dids_without [] = refl
dids_without (step.Did i x ∷ past) = sum_by-cons (λ s. cond (is_a_did s) 1 0) (step.Did i x) past ∙ ap (λ n. 1 + n) (dids_without past) ∙ sym (sum_by-cons (λ s. cond (is_a_did s) 1 0) (step.Did i x) (without past))
dids_without (step.Called i x ∷ past) = sum_by-cons (λ s. cond (is_a_did s) 1 0) (step.Called i x) past ∙ ap (λ n. 0 + n) (dids_without past) ∙ omega arith
dids_without (step.Ran i m ∷ past) = sum_by-cons (λ s. cond (is_a_did s) 1 0) (step.Ran i m) past ∙ ap (λ n. 0 + n) (dids_without past) ∙ sym (sum_by-cons (λ s. cond (is_a_did s) 1 0) (step.Ran i m) (without past))

on_without : (s : Script) (t d : ℕ) (past : List Step) → unanswered_on s t d past ≡ unanswered_on s t d (without past)
on_without s t d past = ap (λ ks. filter (is_on s t d) ks) (unanswered-without past)

-- what an op may be answered
pub answer_without : (s : Script) (t : ℕ) (past : List Step) (o : Option Op) (a : Answer) → answer_fits s t past o a ≡ answer_fits s t (without past) o a
answer_without s t past None a = ap (λ ks. is_closed a && length ks == 0) (unanswered-without past)
answer_without s t past (Some (op.Get d)) a = ap (λ h. get_fits h a) (held-without (is_on s t d) d past)
answer_without s t past (Some (op.Put d)) a = ap₂ (λ n ks. put_fits n a && length ks == 0) (references-without (is_on s t d) past) (on_without s t d past)
answer_without s t past (Some (op.Write d start count pattern)) a = ap (λ n. request_fits n a) (references-without (is_on s t d) past)
answer_without s t past (Some (op.Read d start count)) a = ap (λ n. request_fits n a) (references-without (is_on s t d) past)
answer_without s t past (Some (op.Flush d)) a = ap (λ n. request_fits n a) (references-without (is_on s t d) past)
answer_without s t past (Some (op.Wait ticks)) a = refl
answer_without s t past (Some (op.Visit d)) a = refl
answer_without s t past (Some op.Each) a = refl
answer_without s t past (Some (op.Unregister d)) a = ap (λ ks. unregister_fits a && length ks == 0) (on_without s t d past)

pub depth_without : (s : Script) (t : ℕ) (past : List Step) (a : Answer) → depth_fits s t past a ≡ depth_fits s t (without past) a
depth_without s t past a = ap (λ ks. not (is_sent a) || nat_lt (length ks) (depth_of s t)) (unanswered-without past)

-- a test of lines that holds of the steps without callbacks holds of all steps
pub lifted : (p q : List Step → Step → Bool) → ((past : List Step) (i : ℕ) (x : Did) → q (without past) (step.Did i x) ≡ true → p past (step.Did i x) ≡ true)
    → ((past : List Step) (i : ℕ) (x : Called) → p past (step.Called i x) ≡ true) → ((past : List Step) (i : ℕ) (m : Tag) → q (without past) (step.Ran i m) ≡ true → p past (step.Ran i m) ≡ true)
    → (past rest : List Step) → list_all (λ z. q z.0 z.1) (with_past (without past) (without rest)) ≡ true → list_all (λ z. p z.0 z.1) (with_past past rest) ≡ true
lifted p q did called ran past [] e = refl
lifted p q did called ran past (step.Did i x ∷ rest) e =
    let both = and_parts (q (without past) (step.Did i x)) (list_all (λ z. q z.0 z.1) (with_past (step.Did i x ∷ without past) (without rest))) e in
    and_from (p past (step.Did i x)) (list_all (λ z. p z.0 z.1) (with_past (step.Did i x ∷ past) rest)) (did past i x both.0) (lifted p q did called ran (step.Did i x ∷ past) rest both.1)
lifted p q did called ran past (step.Called i x ∷ rest) e =
    and_from (p past (step.Called i x)) (list_all (λ z. p z.0 z.1) (with_past (step.Called i x ∷ past) rest)) (called past i x) (lifted p q did called ran (step.Called i x ∷ past) rest e)
lifted p q did called ran past (step.Ran i m ∷ rest) e =
    let both = and_parts (q (without past) (step.Ran i m)) (list_all (λ z. q z.0 z.1) (with_past (step.Ran i m ∷ without past) (without rest))) e in
    and_from (p past (step.Ran i m)) (list_all (λ z. p z.0 z.1) (with_past (step.Ran i m ∷ past) rest)) (ran past i m both.0) (lifted p q did called ran (step.Ran i m ∷ past) rest both.1)

-- a step stands in the lists of its thread
abbrev pub Stands : ThreadRecord → Step → Type 0
Stands x (step.Did i d) = slice_get x.did i ≡ Some d
Stands x (step.Called i c) = slice_get x.called i ≡ Some c
Stands x (step.Ran i m) = slice_get x.ran i ≡ Some m

pub placed : {X : Type 0} (P : ℕ → X → Type 0) (n : ℕ) (xs : List X) → ((k : ℕ) (x : X) → slice_get xs k ≡ Some x → P (n + k) x) → AllByRecursion (λ p. P p.0 p.1) (enumerate_from n xs)
placed P n [] h = tt
placed P n (x ∷ xs) h = (subst (λ m. P m x) (omega arith) (h 0 x refl), placed P (n + 1) xs (λ k y e. subst (λ m. P m y) (omega arith) (h (suc k) y e)))

mapped : {X Y : Type 0} (P : Y → Type 0) (f : X → Y) (xs : List X) → AllByRecursion (λ x. P (f x)) xs → AllByRecursion P (map f xs)
mapped P f [] h = tt
mapped P f (x ∷ xs) h = (h.0, mapped P f xs h.1)

pub all_stand : (x : ThreadRecord) → AllByRecursion (Stands x) (own_order x)
all_stand x = all-in_order (Stands x) _
    (all-append (Stands x) (dids x ++ calleds x) (rans x)
    (all-append (Stands x) (dids x) (calleds x)
    (mapped (Stands x) (λ p. step.Did p.0 p.1) (enumerate_from 0 x.did) (placed (λ i d. slice_get x.did i ≡ Some d) 0 x.did (λ k d e. subst (λ m. slice_get x.did m ≡ Some d) (omega arith) e)))
    (mapped (Stands x) (λ p. step.Called p.0 p.1) (enumerate_from 0 x.called) (placed (λ i d. slice_get x.called i ≡ Some d) 0 x.called (λ k d e. subst (λ m. slice_get x.called m ≡ Some d) (omega arith) e))))
    (mapped (Stands x) (λ p. step.Ran p.0 p.1) (enumerate_from 0 x.ran) (placed (λ i d. slice_get x.ran i ≡ Some d) 0 x.ran (λ k d e. subst (λ m. slice_get x.ran m ≡ Some d) (omega arith) e))))
