-- Sums kept in a list, one a reactor, and a load more.
use Rattle.std.proofs.Common.{◌≡◌, ℕ, ◌+◌, ◌*◌, ◌<◌, ◌≤◌, ◌==◌, Bool, true, false, cond, List, [], ◌∷◌, ◌++◌, length, get_or, set, replicate, filter, sum_by, inl, inr, sym, ap, ◌∙◌, arith}
use Rattle.std.proofs.lemmas.Bool.{cases_lt, cases_eq, eq-eqb, ne_eqb}
use Rattle.std.proofs.lemmas.List.{get_or-set_same, get_or-set_other, get_or-replicate, get_or_past, length-replicate}
use Rattle.std.proofs.lemmas.List.Elements.{filter-append}
use Rattle.std.proofs.lemmas.List.Sums.{sum_by-append, sum_by-cons}
use Rattle.lw_base.specs.Plan.{planned}
use Rattle.lw_sched.specs.Sums.{Tells}

-- the sum over what passes a test, one item more
sum_passing_push : {X : Type 0} (p : X → Bool) (f : X → ℕ) (xs : List X) (x : X) → sum_by f (filter p (xs ++ x ∷ [])) ≡ sum_by f (filter p xs) + cond (p x) (f x) 0
sum_passing_push p f xs x = ap (λ l. sum_by f l) (filter-append p xs (x ∷ [])) ∙ sum_by-append f (filter p xs) (filter p (x ∷ [])) ∙ ap (λ n. sum_by f (filter p xs) + n) (one (p x))
  where
    one : (b : Bool) → sum_by f (cond b (x ∷ []) []) ≡ cond b (f x) 0
    one true = omega (arith, sum_by-cons f x [])
    one false = omega arith

pub planned_more : (earlier : List (ℕ × ℕ)) (t n c : ℕ) → planned (earlier ++ (t, n) ∷ []) c ≡ planned earlier c + cond (t == c) n 0
planned_more earlier t n c = sum_passing_push (λ e. e.0 == c) (λ e. e.1) earlier (t, n)

-- a load is added at its reactor
pub added : (sums : List ℕ) (f g : ℕ → ℕ) (t n : ℕ) → t < length sums → Tells f sums
    → ((c : ℕ) → g c ≡ f c + cond (t == c) n 0) → Tells g (set sums t (get_or sums t 0 + n))
added sums f g t n below tells more c = elim (cases_eq t c) [
  | inl e ↦
      ap (λ j. get_or (set sums t (get_or sums t 0 + n)) j 0) (sym e)
      ∙ get_or-set_same sums t (get_or sums t 0 + n) 0 below
      ∙ ap (λ m. m + n) (tells t)
      ∙ ap (λ m. f m + n) e
      ∙ ap (λ b. f c + cond b n 0) (sym (eq-eqb t c e))
      ∙ sym (more c)
  | inr ne ↦
      let none : f c + 0 ≡ f c = omega arith in
      get_or-set_other sums t c (get_or sums t 0 + n) 0 (λ e. ne (sym e))
      ∙ tells c
      ∙ sym (more c ∙ ap (λ b. f c + cond b n 0) (ne_eqb t c ne) ∙ none)
]

-- and no sum grows by more than 100
pub added_most : (sums : List ℕ) (t n i : ℕ) → t < length sums → n ≤ 100 → ((c : ℕ) → get_or sums c 0 ≤ 100 * i)
    → (c : ℕ) → get_or (set sums t (get_or sums t 0 + n)) c 0 ≤ 100 * (i + 1)
added_most sums t n i below few most c = elim (cases_eq t c) [
  | inl e ↦ (
      let now : get_or (set sums t (get_or sums t 0 + n)) c 0 ≡ get_or sums t 0 + n =
      ap (λ j. get_or (set sums t (get_or sums t 0 + n)) j 0) (sym e) ∙ get_or-set_same sums t (get_or sums t 0 + n) 0 below in
      let was = most t in
      omega arith)
  | inr ne ↦ (
      let now = get_or-set_other sums t c (get_or sums t 0 + n) 0 (λ e. ne (sym e)) in
      let was = most c in
      omega arith)
]

-- at the start each sum is 0
pub none_yet : (n : ℕ) → Tells (λ c. 0) (replicate n 0)
none_yet n c = elim (cases_lt c n) [
  | inl less ↦ get_or-replicate n c 0 0 less
  | inr past ↦ get_or_past (replicate n 0) c 0 (omega (arith, past, length-replicate {A = ℕ} n 0))
]

pub none_yet_most : (n c : ℕ) → get_or (replicate n 0) c 0 ≤ 100 * 0
none_yet_most n c = let none = none_yet n c in omega arith
