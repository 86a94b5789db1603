-- Sums below a bound, and tables with one number changed.
use Rattle.std.proofs.Common.{◌≡◌, ◌≢◌, ◌≤◌, ◌<◌, ◌⊎◌, inl, inr, ℕ, zero, suc, ◌+◌, ◌*◌, List, length, refl, sym, ap, ◌∙◌, arith, slice_index, slice_index_or, slice_set, replicate, if◌then◌else◌}
use Rattle.std.proofs.lemmas.List.{get_or-set_same, get_or-set_other, length-set}
use Rattle.std.proofs.lemmas.Bool.{lt-ltb, le-ltb, cases_lt}
use Rattle.std.proofs.lemmas.Bool.Decides.{eqb_tells}
use Rattle.std.proofs.lemmas.Grind.{get_or-set_at}
use Rattle.std.proofs.Math.ListN.{get_or-eq_default}
use Rattle.lw_world.specs.Sums.{at, put, sum_below}

pub same_or_not : (a b : ℕ) → (a ≡ b) ⊎ (a ≢ b)
same_or_not a b = elim (eqb_tells a b) [ inl p ↦ inl p.1 | inr p ↦ inr p.1 ]

-- ---- sums

pub sum-same : (n : ℕ) (f g : ℕ → ℕ) → ((i : ℕ) → i < n → g i ≡ f i) → sum_below n g ≡ sum_below n f
sum-same zero f g same = refl
sum-same (suc n) f g same =
    let before = sum-same n f g (λ i below. same i (omega (arith, below))) in
    let last = same n (omega arith) in
    omega (arith, before, last)

-- one number of a sum is changed
pub sum-changed : (n : ℕ) (f g : ℕ → ℕ) (j : ℕ) → j < n → ((i : ℕ) → i ≢ j → g i ≡ f i) → sum_below n g + f j ≡ sum_below n f + g j
sum-changed zero f g j below same = absurd (omega (arith, below))
sum-changed (suc n) f g j below same = elim (same_or_not n j) [
  | inl e ↦
      let before = sum-same n f g (λ i h. same i (λ is. omega (arith, h, e, is))) in
      rw (← e) (omega (arith, before))
  | inr apart ↦
      let within : j < n = omega (arith, below, apart) in
      let before = sum-changed n f g j within same in
      let last = same n apart in
      omega (arith, before, last)
]

pub sum-part : (n : ℕ) (f : ℕ → ℕ) (j : ℕ) → j < n → f j ≤ sum_below n f
sum-part zero f j below = absurd (omega (arith, below))
sum-part (suc n) f j below = elim (same_or_not n j) [
  | inl e ↦ rw (← e) (omega arith)
  | inr apart ↦
      let part = sum-part n f j (omega (arith, below, apart)) in
      omega (arith, part)
]

pub sum-zero : (n : ℕ) → sum_below n (λ i. 0) ≡ 0
sum-zero zero = refl
sum-zero (suc n) = let before = sum-zero n in omega (arith, before)

-- a sum of at most 81 numbers, each at most 2^40
pub sum-bound : (n : ℕ) (f : ℕ → ℕ) → ((i : ℕ) → f i ≤ 1099511627776) → sum_below n f ≤ n * 1099511627776
sum-bound zero f small = omega arith
sum-bound (suc n) f small =
    let before = sum-bound n f small in
    let last = small n in
    omega (arith, before, last)

pub sum-few : (n : ℕ) (f : ℕ → ℕ) → n ≤ 81 → ((i : ℕ) → f i ≤ 1099511627776) → sum_below n f ≤ 89060441849856
sum-few n f few small = let bound = sum-bound n f small in omega (arith, bound, few)

-- ---- tables

at-within : (cells : List ℕ) (x y : ℕ) → y < 81 → at cells x y ≡ slice_index cells (x * 81 + y)
at-within cells x y within = ap (λ b. if b then slice_index cells (x * 81 + y) else 0) (lt-ltb y 81 within)

at-past : (cells : List ℕ) (x y : ℕ) → 81 ≤ y → at cells x y ≡ 0
at-past cells x y past = ap (λ b. if b then slice_index cells (x * 81 + y) else 0) (le-ltb y 81 past)

pub at-put_same : (cells : List ℕ) (x y v : ℕ) → y < 81 → x * 81 + y < length cells → at (put cells x y v) x y ≡ v
at-put_same cells x y v narrow within = at-within (put cells x y v) x y narrow ∙ get_or-set_same cells (x * 81 + y) v 0 within

pub at-put_other : (cells : List ℕ) (x y v i j : ℕ) → (j < 81 → i * 81 + j ≢ x * 81 + y) → at (put cells x y v) i j ≡ at cells i j
at-put_other cells x y v i j apart = elim (cases_lt j 81) [
  | inl narrow ↦ at-within (put cells x y v) i j narrow ∙ get_or-set_other cells (x * 81 + y) (i * 81 + j) v 0 (apart narrow) ∙ sym (at-within cells i j narrow)
  | inr past ↦ at-past (put cells x y v) i j past ∙ sym (at-past cells i j past)
]

pub other_row : (x y i j : ℕ) → y < 81 → j < 81 → i ≢ x → i * 81 + j ≢ x * 81 + y
other_row x y i j narrow within apart = λ e. omega (arith, narrow, within, apart, e)

pub other_column : (x y i j : ℕ) → y < 81 → j < 81 → j ≢ y → i * 81 + j ≢ x * 81 + y
other_column x y i j narrow within apart = λ e. omega (arith, narrow, within, apart, e)

get_or-zeros : (n k : ℕ) → slice_index (replicate n 0) k ≡ 0
get_or-zeros zero k = refl
get_or-zeros (suc n) zero = refl
get_or-zeros (suc n) (suc k) = get_or-zeros n k

pub at-zeros : (n x y : ℕ) → at (replicate n 0) x y ≡ 0
at-zeros n x y = elim (cases_lt y 81) [
  | inl narrow ↦ at-within (replicate n 0) x y narrow ∙ get_or-zeros n (x * 81 + y)
  | inr past ↦ at-past (replicate n 0) x y past
]

-- ---- one element of a list, or one number of a table, is changed or another is read

pub set_cases : {S : Type 0} (xs : List S) (i : ℕ) (v : S) (j : ℕ) (d : S) → ((j ≡ i) × (slice_index_or (slice_set xs i v) j d ≡ v)) ⊎ (slice_index_or (slice_set xs i v) j d ≡ slice_index_or xs j d)
set_cases xs i v j d = elim (same_or_not j i) [
  | inl e ↦ elim (cases_lt i (length xs)) [
    | inl within ↦ inl (e, get_or-set_at xs i j v d e within)
    | inr past ↦
        let long = length-set xs i v in
        inr (get_or-eq_default (slice_set xs i v) d (omega (arith, long, past, e)) ∙ sym (get_or-eq_default xs d (omega (arith, past, e))))
  ]
  | inr apart ↦ inr (get_or-set_other xs i j v d apart)
]

pub put_cases : (cells : List ℕ) (x y v i j : ℕ) → y < 81 → ((i ≡ x) × (j ≡ y) × (at (put cells x y v) i j ≡ v)) ⊎ (at (put cells x y v) i j ≡ at cells i j)
put_cases cells x y v i j narrow = elim (cases_lt j 81) [
  | inl near ↦ elim (set_cases cells (x * 81 + y) v (i * 81 + j) 0) [
    | inl p ↦ inl (omega (arith, p.0, near, narrow), omega (arith, p.0, near, narrow), at-within (put cells x y v) i j near ∙ p.1)
    | inr same ↦ inr (at-within (put cells x y v) i j near ∙ same ∙ sym (at-within cells i j near))
  ]
  | inr past ↦ inr (at-past (put cells x y v) i j past ∙ sym (at-past cells i j past))
]

-- no number of the changed table is above a bound
pub at-put_small : (cells : List ℕ) (x y v i j most : ℕ) → v ≤ most → at cells i j ≤ most → at (put cells x y v) i j ≤ most
at-put_small cells x y v i j most small before = elim (cases_lt j 81) [
  | inl near ↦ elim (set_cases cells (x * 81 + y) v (i * 81 + j) 0) [
    | inl p ↦ let here = at-within (put cells x y v) i j near ∙ p.1 in omega (arith, here, small)
    | inr same ↦ let there = at-within (put cells x y v) i j near ∙ same ∙ sym (at-within cells i j near) in omega (arith, there, before)
  ]
  | inr past ↦ let none = at-past (put cells x y v) i j past in omega (arith, none)
]
