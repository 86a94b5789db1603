-- Callbacks' lines change nothing of what a client holds, so a run may keep its state by the order without them.
use Rattle.std.proofs.Common.{◌≡◌, ℕ, ◌+◌, ◌-◌, ◌==◌, nat_lt, nat_le, ◌≤◌, Bool, true, false, cond, not, ◌&&◌, ◌||◌, List, [], ◌∷◌, ◌++◌, map, filter, Option, Some, None, refl, sym, ap, ap₂, ◌∙◌, arith, count_by}
use Rattle.std.specs.List.{list_any, enumerate_from, AllByRecursion}
use Rattle.std.proofs.lemmas.Bool.{le-leb, leb-true, leb-false}
use Rattle.std.proofs.lemmas.List.Sums.{sum_by-cons}
use Rattle.std.proofs.lemmas.List.Elements.{filter-append}
use Rattle.lw_base.specs.declared.message.Tag.{Tag}
use Rattle.lw_base.specs.declared.message.What.TheVariants as what
use Rattle.lw_model.specs.declared.record.ThreadRecord.{ThreadRecord}
use Rattle.lw_model.specs.declared.record.Did.{Did}
use Rattle.lw_model.specs.declared.record.Called.{Called}
use Rattle.lw_model.specs.declared.step.Step.TheVariants as step
use Rattle.lw_model.specs.declared.step.Step.{Step}
use Rattle.lw_model.specs.declared.step.Step.TheVariants as step
use Rattle.lw_model.specs.OwnOrder.{at_of, put_in, in_order, steps_of, own_order}
use Rattle.lw_model.proofs.Growth.{all-put_in, dids, calleds, rans}
use Rattle.lw_model.specs.Holding.{is_given, is_sent, is_deferred, is_closed, gains, loses, says, is_putself, always, ordinal_given, references, pending, held, submitted}
use Rattle.lw_model.specs.Answers.{unanswered}

abbrev pub is_line : Step → Bool
is_line (step.Did i x) = true
is_line (step.Called i x) = false
is_line (step.Ran i m) = true

-- the steps but the callbacks' lines
abbrev pub without : List Step → List Step
without past = filter is_line past

-- tests that don't hold of callbacks
pub any_without : (p : Step → Bool) → ((i : ℕ) (x : Called) → p (step.Called i x) ≡ false) → (past : List Step) → list_any p past ≡ list_any p (without past)
any_without p skips [] = refl
any_without p skips (step.Did i x ∷ past) = ap (λ b. p (step.Did i x) || b) (any_without p skips past)
any_without p skips (step.Called i x ∷ past) = ap (λ b. b || list_any p past) (skips i x) ∙ any_without p skips past
any_without p skips (step.Ran i m ∷ past) = ap (λ b. p (step.Ran i m) || b) (any_without p skips past)

count_without : (p : Step → Bool) → ((i : ℕ) (x : Called) → p (step.Called i x) ≡ false) → (past : List Step) → count_by p past ≡ count_by p (without past)
count_without p skips [] = refl
count_without p skips (step.Did i x ∷ past) = sum_by-cons (λ s. cond (p s) 1 0) (step.Did i x) past ∙ ap (λ n. cond (p (step.Did i x)) 1 0 + n) (count_without p skips past) ∙ sym (sum_by-cons (λ s. cond (p s) 1 0) (step.Did i x) (without past))
count_without p skips (step.Called i x ∷ past) = sum_by-cons (λ s. cond (p s) 1 0) (step.Called i x) past ∙ ap₂ (λ b n. cond b 1 0 + n) (skips i x) (count_without p skips past) ∙ omega arith
count_without p skips (step.Ran i m ∷ past) = sum_by-cons (λ s. cond (p s) 1 0) (step.Ran i m) past ∙ ap (λ n. cond (p (step.Ran i m)) 1 0 + n) (count_without p skips past) ∙ sym (sum_by-cons (λ s. cond (p s) 1 0) (step.Ran i m) (without past))

module _ (on : ℕ → Bool) where
  pub references-without : (past : List Step) → references on past ≡ references on (without past)
  references-without past = ap₂ (λ (b : Bool) (n : ℕ). cond b 0 n) (any_without (says always is_closed) (λ i x. refl) past)
      (ap₂ (λ m n. m - n) (count_without (says on gains) (λ i x. refl) past) (count_without (says on loses) (λ i x. refl) past))

  pub pending-without : (d : ℕ) (past : List Step) → pending on d past ≡ pending on d (without past)
  pending-without d [] = refl
  pending-without d (step.Did i x ∷ past) = ap₂ (λ k n. k + cond (says on is_deferred (step.Did i x) || says always is_closed (step.Did i x) && nat_lt 0 n) 1 0 - 0) (pending-without d past) (references-without past)
  pending-without d (step.Called i x ∷ past) = step (pending on d past) ∙ pending-without d past
    where
      step : (k : ℕ) → k + 0 - 0 ≡ k
      step k = omega arith
  pending-without d (step.Ran i m ∷ past) = ap (λ k. k + 0 - cond (is_putself d m.what) 1 0) (pending-without d past)

  pub held-without : (d : ℕ) (past : List Step) → held on d past ≡ held on d (without past)
  held-without d [] = refl
  held-without d (step.Did i x ∷ past) = given (held-without d past) (ordinal_given on (step.Did i x))
    where
      given : held on d past ≡ held on d (without past) → (o : Option ℕ) → ◌≡◌ {A = Option ℕ} (elim o [ Some n ↦ Some n | None ↦ held on d past ]) (elim o [ Some n ↦ Some n | None ↦ held on d (without past) ])
      given e None = e
      given e (Some n) = refl
  held-without d (step.Called i x ∷ past) = held-without d past
  held-without d (step.Ran i m ∷ past) = ap₂ (λ b o. cond b None o)
      (ap₂ (λ k n. is_putself d m.what && k == 1 && n == 0) (pending-without d past) (references-without past)) (held-without d past)

  pub submitted-without : (past : List Step) → submitted on past ≡ submitted on (without past)
  submitted-without [] = refl
  submitted-without (step.Did i x ∷ past) = ap (λ k. cond (says on is_given (step.Did i x)) 0 (k + cond (says on is_sent (step.Did i x)) 1 0)) (submitted-without past)
  submitted-without (step.Called i x ∷ past) = step (submitted on past) ∙ submitted-without past
    where
      step : (k : ℕ) → k + 0 ≡ k
      step k = omega arith
  submitted-without (step.Ran i m ∷ past) = ap (λ k. k + 0) (submitted-without past)

pub unanswered-without : (past : List Step) → unanswered past ≡ unanswered (without past)
unanswered-without [] = refl
unanswered-without (step.Did i x ∷ past) = ap (λ ks. cond (is_sent x.answer) (x.op ∷ ks) ks) (unanswered-without past)
unanswered-without (step.Called i x ∷ past) = unanswered-without past
unanswered-without (step.Ran i m ∷ past) = ap (λ (ks : List ℕ). elim m.what as (λ x. List ℕ) [ what.Reply k ↦ filter (λ j. not (j == k)) ks | _ ↦ ks ]) (unanswered-without past)

-- steps in ascending order
abbrev IsAscending : List Step → Type 0
IsAscending [] = Unit {0}
IsAscending (s ∷ ss) = AllByRecursion (λ x. at_of s ≤ at_of x) ss × IsAscending ss

all_later : (a b : ℕ) (ss : List Step) → a ≤ b → AllByRecursion (λ x. b ≤ at_of x) ss → AllByRecursion (λ x. a ≤ at_of x) ss
all_later a b [] h all = tt
all_later a b (s ∷ ss) h all = (omega (arith, all.0), all_later a b ss h all.1)

ascending-put_in : (s : Step) (xs : List Step) → IsAscending xs → IsAscending (put_in s xs)
ascending-put_in s [] h = (tt, tt)
ascending-put_in s (x ∷ xs) h = at (nat_le (at_of s) (at_of x)) refl (ascending-put_in s xs h.1)
  where
    at : (b : Bool) → nat_le (at_of s) (at_of x) ≡ b → IsAscending (put_in s xs) → IsAscending (cond b (s ∷ x ∷ xs) (x ∷ put_in s xs))
    at true e rest = let le = leb-true (at_of s) (at_of x) e in ((le, all_later (at_of s) (at_of x) xs le h.0), h)
    at false e rest = (all-put_in (λ y. at_of x ≤ at_of y) s xs (omega (arith, leb-false (at_of s) (at_of x) e)) h.0, rest)

ascending-in_order : (ss : List Step) → IsAscending (in_order ss)
ascending-in_order [] = tt
ascending-in_order (s ∷ ss) = ascending-put_in s (in_order ss) (ascending-in_order ss)

-- a step goes before all that are not earlier
pub put_first : (s : Step) (xs : List Step) → AllByRecursion (λ x. at_of s ≤ at_of x) xs → put_in s xs ≡ s ∷ xs
put_first s [] h = refl
put_first s (x ∷ xs) h = ap (λ b. cond b (s ∷ x ∷ xs) (x ∷ put_in s xs)) (le-leb (at_of s) (at_of x) h.0)

all-without : (P : Step → Type 0) (xs : List Step) → AllByRecursion P xs → AllByRecursion P (without xs)
all-without P [] h = tt
all-without P (step.Did i x ∷ xs) h = (h.0, all-without P xs h.1)
all-without P (step.Called i x ∷ xs) h = all-without P xs h.1
all-without P (step.Ran i m ∷ xs) h = (h.0, all-without P xs h.1)

-- a line that stays is put into the others that stay
without-put_in : (s : Step) (xs : List Step) → is_line s ≡ true → IsAscending xs → without (put_in s xs) ≡ put_in s (without xs)
without-put_in s [] line h = ap (λ b. cond b (s ∷ []) []) line
without-put_in s (x ∷ xs) line h = at (nat_le (at_of s) (at_of x)) refl (without-put_in s xs line h.1)
  where
    kept : (b : Bool) (rest : List Step) → without rest ≡ put_in s (without xs) → nat_le (at_of s) (at_of x) ≡ false → cond b (x ∷ without rest) (without rest) ≡ put_in s (cond b (x ∷ without xs) (without xs))
    kept true rest e later = ap (λ q. x ∷ q) e ∙ ap (λ b. cond b (s ∷ x ∷ without xs) (x ∷ put_in s (without xs))) (sym later)
    kept false rest e later = e

    at : (b : Bool) → nat_le (at_of s) (at_of x) ≡ b → without (put_in s xs) ≡ put_in s (without xs) → without (cond b (s ∷ x ∷ xs) (x ∷ put_in s xs)) ≡ put_in s (without (x ∷ xs))
    at true e rest =
        let le = leb-true (at_of s) (at_of x) e in
        let all : AllByRecursion (λ y. at_of s ≤ at_of y) (x ∷ xs) = (le, all_later (at_of s) (at_of x) xs le h.0) in
        ap (λ b. cond b (s ∷ without (x ∷ xs)) (without (x ∷ xs))) line ∙ sym (put_first s (without (x ∷ xs)) (all-without (λ y. at_of s ≤ at_of y) (x ∷ xs) all))
    at false e rest = kept (is_line x) (put_in s xs) rest e

-- a line that goes leaves the others
without-put_called : (i : ℕ) (c : Called) (xs : List Step) → without (put_in (step.Called i c) xs) ≡ without xs
without-put_called i c [] = refl
without-put_called i c (x ∷ xs) = at (nat_le c.at (at_of x)) (without-put_called i c xs)
  where
    at : (b : Bool) → without (put_in (step.Called i c) xs) ≡ without xs → without (cond b (step.Called i c ∷ x ∷ xs) (x ∷ put_in (step.Called i c) xs)) ≡ without (x ∷ xs)
    at true e = refl
    at false e = ap (λ q. cond (is_line x) (x ∷ q) q) e

pub without-in_order : (ss : List Step) → without (in_order ss) ≡ in_order (without ss)
without-in_order [] = refl
without-in_order (step.Did i x ∷ ss) = without-put_in (step.Did i x) (in_order ss) refl (ascending-in_order ss) ∙ ap (put_in (step.Did i x)) (without-in_order ss)
without-in_order (step.Called i x ∷ ss) = without-put_called i x (in_order ss) ∙ without-in_order ss
without-in_order (step.Ran i m ∷ ss) = without-put_in (step.Ran i m) (in_order ss) refl (ascending-in_order ss) ∙ ap (put_in (step.Ran i m)) (without-in_order ss)

dids_stay : (ps : List (ℕ × Did)) → without (map (λ p. step.Did p.0 p.1) ps) ≡ map (λ p. step.Did p.0 p.1) ps
dids_stay [] = refl
dids_stay (p ∷ ps) = ap (λ ss. step.Did p.0 p.1 ∷ ss) (dids_stay ps)

calleds_go : (ps : List (ℕ × Called)) → without (map (λ p. step.Called p.0 p.1) ps) ≡ []
calleds_go [] = refl
calleds_go (p ∷ ps) = calleds_go ps

rans_stay : (ps : List (ℕ × Tag)) → without (map (λ p. step.Ran p.0 p.1) ps) ≡ map (λ p. step.Ran p.0 p.1) ps
rans_stay [] = refl
rans_stay (p ∷ ps) = ap (λ ss. step.Ran p.0 p.1 ∷ ss) (rans_stay ps)

without-steps : (t : ThreadRecord) → without (steps_of t) ≡ steps_of (record t { called = [] })
without-steps t =
    filter-append is_line (dids t ++ calleds t) (rans t)
    ∙ ap₂ (λ a b. a ++ b) (filter-append is_line (dids t) (calleds t)) (rans_stay (enumerate_from 0 t.ran))
    ∙ ap₂ (λ a b. a ++ b ++ rans t) (dids_stay (enumerate_from 0 t.did)) (calleds_go (enumerate_from 0 t.called))

-- own order without the callbacks' lines is own order of the thread without them
pub without-own_order : (t : ThreadRecord) → without (own_order t) ≡ own_order (record t { called = [] })
without-own_order t = without-in_order (steps_of t) ∙ ap in_order (without-steps t)
