-- Flags that are set and cleared, and how many are set.
use Rattle.std.proofs.Common.{◌≡◌, ℕ, zero, suc, ◌+◌, ◌<◌, ◌≤◌, Bool, true, false, cond, List, [], ◌∷◌, length, slice_set, replicate, refl, ap, ◌∙◌, arith, get_or-set_same, get_or-set_other}
use Rattle.std.proofs.lemmas.Bool.{eqb-true, false≢true}
use Rattle.std.proofs.lemmas.List.Folds.{sum_by-replicate}
use Rattle.std.proofs.lemmas.List.Sums.{sum_by-set, count_by-le-length}
use Rattle.lw_app.specs.Flags.{how_many}
use Rattle.lw_app.specs.Apps.{flag_at}
use Rattle.lw_app.specs.Ticking.{none_set}

-- a flag that is set is there
pub is_there : (fs : List Bool) (k : ℕ) → flag_at fs k ≡ true → k < length fs
is_there [] k e = absurd (false≢true e)
is_there (f ∷ fs) zero e = omega arith
is_there (f ∷ fs) (suc k) e = omega (arith, is_there fs k e)

-- the flag that was changed, and the others
pub flag_here : (fs : List Bool) (k : ℕ) (f : Bool) → k < length fs → flag_at (slice_set fs k f) k ≡ f
flag_here fs k f l = get_or-set_same fs k f false l

pub flag_there : (fs : List Bool) (k j : ℕ) (f : Bool) → (j ≡ k → ⊥) → flag_at (slice_set fs k f) j ≡ flag_at fs j
flag_there fs k j f ne = get_or-set_other fs k j f false ne

one : Bool → ℕ
one f = cond f 1 0

changed : (fs : List Bool) (k : ℕ) (f : Bool) → k < length fs → how_many (slice_set fs k f) + cond (flag_at fs k) 1 0 ≡ how_many fs + cond f 1 0
changed fs k f l = sum_by-set (λ f. cond f 1 0) fs k f false l

-- one less is set where one is cleared
pub one_less : (fs : List Bool) (k : ℕ) → flag_at fs k ≡ true → how_many (slice_set fs k false) + 1 ≡ how_many fs
one_less fs k e = omega (arith, changed fs k false (is_there fs k e), ap {B = ℕ} (λ f. cond f 1 0) e)

-- and one more where one is set
pub one_more : (fs : List Bool) (k : ℕ) → k < length fs → flag_at fs k ≡ false → how_many (slice_set fs k true) ≡ how_many fs + 1
one_more fs k l e = omega (arith, changed fs k true l, ap {B = ℕ} (λ f. cond f 1 0) e)

-- not more than there are
pub no_more : (fs : List Bool) → how_many fs ≤ length fs
no_more fs = count_by-le-length (λ f. f) fs

-- where none is set, each isn't
pub each_unset : (fs : List Bool) → none_set fs ≡ true → (k : ℕ) → flag_at fs k ≡ false
each_unset fs e k = at (flag_at fs k) refl
  where
    at : (f : Bool) → flag_at fs k ≡ f → f ≡ false
    at false g = refl
    at true g = absurd (omega (arith, one_less fs k g, eqb-true (how_many fs) 0 e))

-- flags that are all set, or all not
pub none_in : (n : ℕ) (k : ℕ) → flag_at (replicate n false) k ≡ false
none_in zero k = refl
none_in (suc n) zero = refl
none_in (suc n) (suc k) = none_in n k

pub all_in : (n : ℕ) (k : ℕ) → k < n → flag_at (replicate n true) k ≡ true
all_in zero k l = absurd (omega (arith, l))
all_in (suc n) zero l = refl
all_in (suc n) (suc k) l = all_in n k (omega (arith, l))

pub all_set : (n : ℕ) → how_many (replicate n true) ≡ n
all_set n = sum_by-replicate {X = Bool} (λ f. cond f 1 0) n true ∙ omega arith
