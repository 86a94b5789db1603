-- The requests of a thread that are unanswered, when one more is sent, and when those of one op are answered.
use Rattle.std.proofs.Common.{◌≡◌, ℕ, ◌+◌, ◌-◌, ◌<◌, ◌≤◌, ◌^◌, ◌==◌, suc, min, Bool, true, false, not, cond, List, [], ◌∷◌, length, filter, count_by, set, get_or, Option, Some, None, unwrap_or, refl, sym, ap, ◌∙◌, inl, inr, arith}
use Rattle.std.proofs.lemmas.Bool.{eqb-true, eq-eqb, ne_eqb, cases_eq}
use Rattle.std.proofs.lemmas.List.{get_or-set_same, get_or-set_other}
use Rattle.std.proofs.lemmas.List.Sums.{sum_by-cons, count_by-le-length}
use Rattle.lw_judge_threads.proofs.HoldingSteps.{off_images}
use Rattle.lw_model.specs.declared.script.Script.{Script}
use Rattle.lw_base.specs.declared.message.What.{What}
use Rattle.lw_base.specs.declared.message.What.TheVariants as what
use Rattle.lw_model.specs.declared.step.Step.{Step}
use Rattle.lw_model.specs.declared.step.Step.TheVariants as step
use Rattle.lw_model.specs.Threads.{image_at, is_on}
use Rattle.lw_model.specs.Holding.{is_sent}
use Rattle.lw_model.specs.Answers.{unanswered}

-- ---- What is on a device

on_some : (s : Script) (t d k e : ℕ) → image_at s t k ≡ Some e → is_on s t d k ≡ (e == d)
on_some s t d k e is = ap (λ o. elim o [ None ↦ false | Some f ↦ f == d ]) is

-- ---- One more

count-cons : (p : ℕ → Bool) (k : ℕ) (ks : List ℕ) → count_by p (k ∷ ks) ≡ cond (p k) 1 0 + count_by p ks
count-cons p k ks = sum_by-cons (λ x. cond (p x) 1 0) k ks

length-filter-cons : (p : ℕ → Bool) (k : ℕ) (ks : List ℕ) → length (filter p (k ∷ ks)) ≡ cond (p k) 1 0 + length (filter p ks)
length-filter-cons p k ks = at (p k)
  where
    at : (b : Bool) → length (cond b (k ∷ filter p ks) (filter p ks)) ≡ cond b 1 0 + length (filter p ks)
    at true = omega arith
    at false = omega arith

filter-le : (p : ℕ → Bool) (ks : List ℕ) → length (filter p ks) ≤ length ks
filter-le p [] = omega arith
filter-le p (k ∷ ks) = at (p k) (filter-le p ks)
  where
    at : (b : Bool) → length (filter p ks) ≤ length ks → length (cond b (k ∷ filter p ks) (filter p ks)) ≤ suc (length ks)
    at true h = omega (arith, h)
    at false h = omega (arith, h)

-- the count of each op
pub op_sent : (f g : ℕ → Option ℕ) (k n : ℕ) (ks : List ℕ) → length ks < 2 ^ 63 → n ≡ min (unwrap_or (f k) 0 + 1) (2 ^ 64 - 1) → ((q : ℕ) → g q ≡ cond (k == q) (Some n) (f q))
    → ((q : ℕ) → unwrap_or (f q) 0 ≡ count_by (λ j. j == q) ks) → (q : ℕ) → unwrap_or (g q) 0 ≡ count_by (λ j. j == q) (k ∷ ks)
op_sent f g k n ks few more writes counts q = ap (λ o. unwrap_or o 0) (writes q) ∙ at (k == q) refl ∙ sym (count-cons (λ j. j == q) k ks)
  where
    at : (b : Bool) → k == q ≡ b → unwrap_or (cond b (Some n) (f q)) 0 ≡ cond b 1 0 + count_by (λ j. j == q) ks
    at true e = omega (arith, few, more, counts q, ap (λ x. unwrap_or (f x) 0) (eqb-true k q e), count_by-le-length (λ j. j == q) ks)
    at false e = omega (arith, counts q)

-- the count of each device
pub device_sent : (s : Script) (t k d : ℕ) (ks xs ys : List ℕ) → length ks < 2 ^ 63 → image_at s t k ≡ Some d → length xs ≡ length s.images → ys ≡ set xs d (min (get_or xs d 0 + 1) (2 ^ 64 - 1))
    → ((e : ℕ) → e < length s.images → get_or xs e 0 ≡ length (filter (is_on s t e) ks)) → (e : ℕ) → e < length s.images → get_or ys e 0 ≡ length (filter (is_on s t e) (k ∷ ks))
device_sent s t k d ks xs ys few on long is counts e less =
    ap (λ l. get_or l e 0) is ∙ elim (cases_eq e d) [ inl h ↦ here h | inr ne ↦ there ne ] ∙ sym (length-filter-cons (is_on s t e) k ks)
  where
    here : e ≡ d → get_or (set xs d (min (get_or xs d 0 + 1) (2 ^ 64 - 1))) e 0 ≡ cond (is_on s t e k) 1 0 + length (filter (is_on s t e) ks)
    here h =
        ap (λ x. get_or (set xs d (min (get_or xs d 0 + 1) (2 ^ 64 - 1))) x 0) h
        ∙ get_or-set_same xs d (min (get_or xs d 0 + 1) (2 ^ 64 - 1)) 0 (omega (arith, less, h, long))
        ∙ omega (arith, few, counts e less, ap (λ x. get_or xs x 0) h, filter-le (is_on s t e) ks)
        ∙ ap (λ b. cond b 1 0 + length (filter (is_on s t e) ks)) (sym (on_some s t e k d on ∙ eq-eqb d e (sym h)))

    there : (e ≡ d → ⊥) → get_or (set xs d (min (get_or xs d 0 + 1) (2 ^ 64 - 1))) e 0 ≡ cond (is_on s t e k) 1 0 + length (filter (is_on s t e) ks)
    there ne =
        get_or-set_other xs d e (min (get_or xs d 0 + 1) (2 ^ 64 - 1)) 0 ne
        ∙ omega (arith, counts e less)
        ∙ ap (λ b. cond b 1 0 + length (filter (is_on s t e) ks)) (sym (on_some s t e k d on ∙ ne_eqb d e (λ h. ne (sym h))))

-- ---- All of one op less

-- the ops other than k
abbrev left : ℕ → List ℕ → List ℕ
left k ks = filter (λ j. not (j == k)) ks

-- of ops that pass with k
left_on : (p : ℕ → Bool) (k : ℕ) (ks : List ℕ) → p k ≡ true → length (filter p (left k ks)) + count_by (λ j. j == k) ks ≡ length (filter p ks)
left_on p k [] is = refl
left_on p k (j ∷ ks) is = ap (λ n. length (filter p (left k (j ∷ ks))) + n) (count-cons (λ i. i == k) j ks) ∙ at (j == k) refl (left_on p k ks is) ∙ sym (length-filter-cons p j ks)
  where
    at : (b : Bool) → j == k ≡ b → length (filter p (left k ks)) + count_by (λ i. i == k) ks ≡ length (filter p ks)
        → length (filter p (cond (not b) (j ∷ left k ks) (left k ks))) + (cond b 1 0 + count_by (λ i. i == k) ks) ≡ cond (p j) 1 0 + length (filter p ks)
    at true e rest = omega (arith, rest) ∙ ap (λ b. cond b 1 0 + length (filter p ks)) (sym (ap p (eqb-true j k e) ∙ is))
    at false e rest = omega (arith, length-filter-cons p j (left k ks), rest)

-- of ops of which k is none
left_off : (p : ℕ → Bool) (k : ℕ) (ks : List ℕ) → p k ≡ false → filter p (left k ks) ≡ filter p ks
left_off p k [] is = refl
left_off p k (j ∷ ks) is = at (j == k) refl (left_off p k ks is)
  where
    at : (b : Bool) → j == k ≡ b → filter p (left k ks) ≡ filter p ks → filter p (cond (not b) (j ∷ left k ks) (left k ks)) ≡ cond (p j) (j ∷ filter p ks) (filter p ks)
    at true e rest = rest ∙ ap (λ b. cond b (j ∷ filter p ks) (filter p ks)) (sym (ap p (eqb-true j k e) ∙ is))
    at false e rest = ap (λ l. cond (p j) (j ∷ l) l) rest

-- the count of all
pub all_answered : (k : ℕ) (ks : List ℕ) → length (filter (λ j. not (j == k)) ks) ≡ length ks - count_by (λ j. j == k) ks
all_answered k ks = omega (arith, every (left k ks), every ks, left_on (λ _. true) k ks refl)
  where
    every : (l : List ℕ) → length (filter (λ _. true) l) ≡ length l
    every [] = refl
    every (x ∷ l) = ap (λ n. suc n) (every l)

-- the count of each device
pub device_answered : (s : Script) (t k d : ℕ) (ks xs ys : List ℕ) → image_at s t k ≡ Some d → length xs ≡ length s.images → ys ≡ set xs d (get_or xs d 0 - count_by (λ j. j == k) ks)
    → ((e : ℕ) → e < length s.images → get_or xs e 0 ≡ length (filter (is_on s t e) ks)) → (e : ℕ) → e < length s.images → get_or ys e 0 ≡ length (filter (is_on s t e) (filter (λ j. not (j == k)) ks))
device_answered s t k d ks xs ys on long is counts e less =
    ap (λ l. get_or l e 0) is ∙ elim (cases_eq e d) [ inl h ↦ here h | inr ne ↦ there ne ]
  where
    here : e ≡ d → get_or (set xs d (get_or xs d 0 - count_by (λ j. j == k) ks)) e 0 ≡ length (filter (is_on s t e) (left k ks))
    here h =
        ap (λ x. get_or (set xs d (get_or xs d 0 - count_by (λ j. j == k) ks)) x 0) h
        ∙ get_or-set_same xs d (get_or xs d 0 - count_by (λ j. j == k) ks) 0 (omega (arith, less, h, long))
        ∙ omega (arith, counts e less, ap (λ x. get_or xs x 0) h, left_on (is_on s t e) k ks (on_some s t e k d on ∙ eq-eqb d e (sym h)))

    there : (e ≡ d → ⊥) → get_or (set xs d (get_or xs d 0 - count_by (λ j. j == k) ks)) e 0 ≡ length (filter (is_on s t e) (left k ks))
    there ne =
        get_or-set_other xs d e (get_or xs d 0 - count_by (λ j. j == k) ks) 0 ne
        ∙ counts e less
        ∙ ap length (sym (left_off (is_on s t e) k ks (on_some s t e k d on ∙ ne_eqb d e (λ h. ne (sym h)))))

-- an op on no device
pub nowhere_answered : (s : Script) (t k e : ℕ) (ks : List ℕ) → image_at s t k ≡ None → length (filter (is_on s t e) (filter (λ j. not (j == k)) ks)) ≡ length (filter (is_on s t e) ks)
nowhere_answered s t k e ks on = ap length (left_off (is_on s t e) k ks (off_images s t e k on))

-- the count of each op
pub op_answered : (f g : ℕ → Option ℕ) (k : ℕ) (ks : List ℕ) → ((q : ℕ) → g q ≡ cond (k == q) None (f q))
    → ((q : ℕ) → unwrap_or (f q) 0 ≡ count_by (λ j. j == q) ks) → (q : ℕ) → unwrap_or (g q) 0 ≡ count_by (λ j. j == q) (filter (λ j. not (j == k)) ks)
op_answered f g k ks writes counts q = ap (λ o. unwrap_or o 0) (writes q) ∙ elim (cases_eq k q) [ inl h ↦ here h | inr ne ↦ there ne ]
  where
    none_left : (l : List ℕ) → count_by (λ j. j == k) (left k l) ≡ 0
    none_left [] = refl
    none_left (j ∷ l) = at (j == k) refl (none_left l)
      where
        at : (b : Bool) → j == k ≡ b → count_by (λ i. i == k) (left k l) ≡ 0 → count_by (λ i. i == k) (cond (not b) (j ∷ left k l) (left k l)) ≡ 0
        at true e rest = rest
        at false e rest = count-cons (λ i. i == k) j (left k l) ∙ ap (λ b. cond b 1 0 + count_by (λ i. i == k) (left k l)) e ∙ omega (arith, rest)

    none_more : (n : ℕ) → n ≡ 0 + n
    none_more n = omega arith

    others_stay : (k ≡ q → ⊥) → (l : List ℕ) → count_by (λ j. j == q) (left k l) ≡ count_by (λ j. j == q) l
    others_stay ne [] = refl
    others_stay ne (j ∷ l) = at (j == k) refl (others_stay ne l) ∙ sym (count-cons (λ i. i == q) j l)
      where
        at : (b : Bool) → j == k ≡ b → count_by (λ i. i == q) (left k l) ≡ count_by (λ i. i == q) l
            → count_by (λ i. i == q) (cond (not b) (j ∷ left k l) (left k l)) ≡ cond (j == q) 1 0 + count_by (λ i. i == q) l
        at true e rest = rest ∙ none_more (count_by (λ i. i == q) l) ∙ ap (λ b. cond b 1 0 + count_by (λ i. i == q) l) (sym (ne_eqb j q (λ h. ne (sym (eqb-true j k e) ∙ h))))
        at false e rest = count-cons (λ i. i == q) j (left k l) ∙ ap (λ n. cond (j == q) 1 0 + n) rest

    here : k ≡ q → unwrap_or (cond (k == q) None (f q)) 0 ≡ count_by (λ j. j == q) (left k ks)
    here h = ap (λ b. unwrap_or (cond b None (f q)) 0) (eq-eqb k q h) ∙ sym (none_left ks) ∙ ap (λ x. count_by (λ j. j == x) (left k ks)) h

    there : (k ≡ q → ⊥) → unwrap_or (cond (k == q) None (f q)) 0 ≡ count_by (λ j. j == q) (left k ks)
    there ne = ap (λ b. unwrap_or (cond b None (f q)) 0) (ne_eqb k q ne) ∙ counts q ∙ sym (others_stay ne ks)

-- ---- Unanswered requests are of steps

pub unanswered-le : (past : List Step) → length (unanswered past) ≤ length past
unanswered-le [] = omega arith
unanswered-le (step.Did i x ∷ past) = at (is_sent x.answer) (unanswered-le past)
  where
    at : (b : Bool) → length (unanswered past) ≤ length past → length (cond b (x.op ∷ unanswered past) (unanswered past)) ≤ suc (length past)
    at true h = omega (arith, h)
    at false h = omega (arith, h)
unanswered-le (step.Called i x ∷ past) = omega (arith, unanswered-le past)
unanswered-le (step.Ran i m ∷ past) = at m.what (unanswered-le past)
  where
    at : (w : What) → length (unanswered past) ≤ length past → length {A = ℕ} (elim w [ what.Reply k ↦ filter (λ j. not (j == k)) (unanswered past) | _ ↦ unanswered past ]) ≤ suc (length past)
    at (what.Reply k) h = omega (arith, h, filter-le (λ j. not (j == k)) (unanswered past))
    at _ h = omega (arith, h)
