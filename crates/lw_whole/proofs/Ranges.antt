-- Lists made along a range of numbers.
use Rattle.std.proofs.Common.{◌≡◌, ℕ, zero, suc, ◌+◌, ◌<◌, ◌≤◌, List, [], ◌++◌, append-nil, refl, sym, ap, ap₂, ◌∙◌, arith, inl, inr}
use Rattle.std.specs.List.{flat_map, range_with_len}
use Rattle.std.proofs.lemmas.Bool.{cases_eq}
use Rattle.lw_whole.proofs.Flow.{sum_below, sum_same, sum_has}

pub sum_front : (f : ℕ → ℕ) (n : ℕ) → sum_below f (suc n) ≡ f 0 + sum_below (λ k. f (suc k)) n
sum_front f zero = omega arith
sum_front f (suc n) = omega (arith, sum_front f n)

pub flat_same : {X : Type 0} (g h : ℕ → List X) (a n : ℕ) → ((t : ℕ) → a ≤ t → t < a + n → g t ≡ h t) → flat_map g (range_with_len a n) ≡ flat_map h (range_with_len a n)
flat_same g h a zero same = refl
flat_same g h a (suc n) same = ap₂ (λ x y. x ++ y) (same a (omega arith) (omega arith)) (flat_same g h (a + 1) n (λ t low high. same t (omega (arith, low)) (omega (arith, high))))

-- a number that adds up over lists adds up over the range
pub flat_sum : {X : Type 0} (m : List X → ℕ) → m [] ≡ 0 → ((xs ys : List X) → m (xs ++ ys) ≡ m xs + m ys) → (g : ℕ → List X) (a n : ℕ) → m (flat_map g (range_with_len a n)) ≡ sum_below (λ k. m (g (a + k))) n
flat_sum m none both g a zero = none
flat_sum m none both g a (suc n) = omega (
  arith,
  both (g a) (flat_map g (range_with_len (a + 1) n)),
  flat_sum m none both g (a + 1) n,
  sum_front (λ k. m (g (a + k))) n,
  ap (λ k. m (g k)) (here a),
  sum_same (λ k. m (g (a + 1 + k))) (λ k. m (g (a + suc k))) n (λ k b. ap (λ j. m (g j)) (next a k)),
)
  where
    here : (a : ℕ) → a + 0 ≡ a
    here a = omega arith

    next : (a k : ℕ) → a + 1 + k ≡ a + suc k
    next a k = omega arith

none_in : {X : Type 0} (g : ℕ → List X) (a n : ℕ) → ((t : ℕ) → a ≤ t → t < a + n → g t ≡ []) → flat_map g (range_with_len a n) ≡ []
none_in g a zero none = refl
none_in g a (suc n) none = ap₂ (λ x y. x ++ y) (none a (omega arith) (omega arith)) (none_in g (a + 1) n (λ t low high. none t (omega (arith, low)) (omega (arith, high))))

-- where one place alone has something
pub flat_only : {X : Type 0} (g : ℕ → List X) (a n u : ℕ) → a ≤ u → u < a + n → ((t : ℕ) → a ≤ t → t < a + n → (t ≡ u → ⊥) → g t ≡ []) → flat_map g (range_with_len a n) ≡ g u
flat_only g a zero u low high none = absurd (omega (arith, low, high))
flat_only g a (suc n) u low high none = elim (cases_eq a u) [
  | inl same ↦ ap₂ (λ x y. x ++ y) (ap g same) (none_in g (a + 1) n (λ t l h. none t (omega (arith, l)) (omega (arith, h)) (λ e. omega (arith, e, same, l)))) ∙ append-nil (g u)
  | inr other ↦ ap₂ (λ x y. x ++ y) (none a (omega arith) (omega arith) other) (flat_only g (a + 1) n u (omega (arith, low, other)) (omega (arith, high)) (λ t l h e. none t (omega (arith, l)) (omega (arith, h)) e))
]

-- two places have no more than all
pub sum_pair : (f : ℕ → ℕ) (n u t : ℕ) → u < n → t < n → (t ≡ u → ⊥) → f u + f t ≤ sum_below f n
sum_pair f zero u t lu lt ne = absurd (omega (arith, lu))
sum_pair f (suc n) u t lu lt ne = elim (cases_eq u n) [
  | inl same ↦ omega (arith, ap f same, sum_has f n t (omega (arith, lt, below same)))
  | inr other ↦ elim (cases_eq t n) [
    | inl same ↦ omega (arith, ap f same, sum_has f n u (omega (arith, lu, other)))
    | inr another ↦ omega (arith, sum_pair f n u t (omega (arith, lu, other)) (omega (arith, lt, another)) ne)
  ]
]
  where
    below : u ≡ n → t < n
    below same = elim (cases_eq t n) [ inl e ↦ absurd (ne (e ∙ sym same)) | inr e ↦ omega (arith, lt, e) ]
