-- The first reactor of least planned load, one reactor more in front.
use Rattle.std.proofs.Common.{◌≡◌, ℕ, ◌<◌, ◌≤◌, nat_le, Bool, true, false, List, [], ◌∷◌, Option, Some, None, find, inl, inr, refl, sym, subst, ◌∙◌, arith}
use Rattle.std.specs.List.{list_all}
use Rattle.std.proofs.lemmas.Bool.{cases_lt, cases_Bool, and_parts, and_from, and_right, le-leb, lt-leb, leb-true, cond-true, cond-false, false_from_ne_true}
use Rattle.lw_base.specs.Plan.{least_planned}
use Rattle.lw_sched.specs.BestOf.{lesser}

-- at each of some reactors at least n is planned
abbrev at_least : (ℕ → ℕ) → List ℕ → ℕ → Bool
at_least loads ds n = list_all (λ e. nat_le n (loads e)) ds

at_least_less : (loads : ℕ → ℕ) (ds : List ℕ) (n m : ℕ) → n ≤ m → at_least loads ds m ≡ true → at_least loads ds n ≡ true
at_least_less loads [] n m le h = refl
at_least_less loads (d ∷ ds) n m le h =
    let parts = and_parts (nat_le m (loads d)) (at_least loads ds m) h in
    let first = leb-true m (loads d) parts.0 in
    and_from (nat_le n (loads d)) (at_least loads ds n) (le-leb n (loads d) (omega arith)) (at_least_less loads ds n m le parts.1)

find_agree : (p q : ℕ → Bool) → ((x : ℕ) → p x ≡ q x) → (xs : List ℕ) → find p xs ≡ find q xs
find_agree p q same xs = λ k. find (λ x. same x k) xs

-- nothing is found only among no reactors; and what is found has the least
abbrev IsLeast : (ℕ → ℕ) → List ℕ → Option ℕ → Type 0
IsLeast loads ds None = ds ≡ []
IsLeast loads ds (Some b) = (at_least loads ds (loads b) ≡ true) × ((n : ℕ) → at_least loads ds n ≡ true → n ≤ loads b)

-- the reactor in front has no more than the least of the others
front_least : (loads : ℕ → ℕ) (d : ℕ) (ds : List ℕ) → at_least loads ds (loads d) ≡ true
    → (Some d ≡ least_planned loads (d ∷ ds)) × IsLeast loads (d ∷ ds) (Some d)
front_least loads d ds least =
    let here : at_least loads (d ∷ ds) (loads d) ≡ true = and_from (nat_le (loads d) (loads d)) (at_least loads ds (loads d)) (le-leb (loads d) (loads d) (omega arith)) least in (
      sym (cond-true (at_least loads (d ∷ ds) (loads d)) (Some d) (find (λ x. at_least loads (d ∷ ds) (loads x)) ds) here),
      (here, λ n h. leb-true n (loads d) (and_parts (nat_le n (loads d)) (at_least loads ds n) h).0),
    )

-- one of the others has less than the reactor in front
behind_least : (loads : ℕ → ℕ) (d : ℕ) (ds : List ℕ) (b : ℕ) → least_planned loads ds ≡ Some b → IsLeast loads ds (Some b) → loads b < loads d
    → (Some b ≡ least_planned loads (d ∷ ds)) × IsLeast loads (d ∷ ds) (Some b)
behind_least loads d ds b is least less =
    let others : (x : ℕ) → at_least loads (d ∷ ds) (loads x) ≡ at_least loads ds (loads x) = λ x. elim (cases_Bool (at_least loads ds (loads x))) [
      | inl all ↦ (let most = least.1 (loads x) all in and_from (nat_le (loads x) (loads d)) (at_least loads ds (loads x)) (le-leb (loads x) (loads d) (omega arith)) all ∙ sym all)
      | inr not_all ↦ and_right (nat_le (loads x) (loads d)) (at_least loads ds (loads x)) not_all ∙ sym not_all
    ] in
    let not_here : at_least loads (d ∷ ds) (loads d) ≡ false = false_from_ne_true (at_least loads (d ∷ ds) (loads d))
    (λ all. (let most = least.1 (loads d) (and_parts (nat_le (loads d) (loads d)) (at_least loads ds (loads d)) all).1 in absurd (omega arith))) in (
      sym (cond-false (at_least loads (d ∷ ds) (loads d)) (Some d) (find (λ x. at_least loads (d ∷ ds) (loads x)) ds) not_here
          ∙ find_agree (λ x. at_least loads (d ∷ ds) (loads x)) (λ x. at_least loads ds (loads x)) others ds ∙ is),
      (
        and_from (nat_le (loads b) (loads d)) (at_least loads ds (loads b)) (le-leb (loads b) (loads d) (omega arith)) least.0,
        λ n h. least.1 n (and_parts (nat_le n (loads d)) (at_least loads ds n) h).1,
      ),
    )

step : (loads : ℕ → ℕ) (d : ℕ) (ds : List ℕ) (o : Option ℕ) → least_planned loads ds ≡ o → IsLeast loads ds o
    → (lesser loads d o ≡ least_planned loads (d ∷ ds)) × IsLeast loads (d ∷ ds) (lesser loads d o)
step loads d ds None is none = front_least loads d ds (subst (λ l. at_least loads l (loads d) ≡ true) (sym none) refl)
step loads d ds (Some b) is least = elim (cases_lt (loads b) (loads d)) [
  | inl less ↦
      let kept : lesser loads d (Some b) ≡ Some b = cond-false (nat_le (loads d) (loads b)) (Some d) (Some b) (lt-leb (loads d) (loads b) less) in
      let behind = behind_least loads d ds b is least less in
      (kept ∙ behind.0, subst (IsLeast loads (d ∷ ds)) (sym kept) behind.1)
  | inr most ↦
      let taken : lesser loads d (Some b) ≡ Some d = cond-true (nat_le (loads d) (loads b)) (Some d) (Some b) (le-leb (loads d) (loads b) most) in
      let front = front_least loads d ds (at_least_less loads ds (loads d) (loads b) most least.0) in
      (taken ∙ front.0, subst (IsLeast loads (d ∷ ds)) (sym taken) front.1)
]

is_least : (loads : ℕ → ℕ) (ds : List ℕ) → IsLeast loads ds (least_planned loads ds)
is_least loads [] = refl
is_least loads (d ∷ ds) =
    let s = step loads d ds (least_planned loads ds) refl (is_least loads ds) in
    subst (IsLeast loads (d ∷ ds)) s.0 s.1

pub least_more : (loads : ℕ → ℕ) (d : ℕ) (ds : List ℕ) → lesser loads d (least_planned loads ds) ≡ least_planned loads (d ∷ ds)
least_more loads d ds = (step loads d ds (least_planned loads ds) refl (is_least loads ds)).0
