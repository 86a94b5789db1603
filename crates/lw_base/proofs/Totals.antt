-- Sums over a list: of one that changes, and of one element alone.
use Rattle.std.proofs.Common.{◌≡◌, ℕ, zero, suc, ◌+◌, ◌*◌, ◌≤◌, ◌≢◌, List, [], ◌∷◌, ◌++◌, set, refl, sym, ap, arith}
use mathlib.Core.Logic.{dite}
use native.Mathlib.Decide.{ℕ_discrete}
use mathlib.Core.Option.{some, some-injective, some-ne-none}
use lib.ListN.{get_elem?}
use Rattle.lw_base.specs.Totals.{total, times}

module _ {V : Type 0} where
  pub total_set : (f : V → ℕ) (l : List V) (i : ℕ) (v w : V) → get_elem? l i ≡ some v → total f (set l i w) + f v ≡ total f l + f w
  total_set f [] i v w e = absurd (some-ne-none v (sym e))
  total_set f (x ∷ xs) zero v w e = let is : f x ≡ f v = ap f (some-injective x v e) in omega arith
  total_set f (x ∷ xs) (suc i) v w e = let r = total_set f xs i v w e in omega arith

  pub total_snoc : (f : V → ℕ) (l : List V) (w : V) → total f (l ++ w ∷ []) ≡ total f l + f w
  total_snoc f [] w = omega arith
  total_snoc f (x ∷ xs) w = let r = total_snoc f xs w in omega arith

  pub total_le : (f g : V → ℕ) (l : List V) → ((i : ℕ) (v : V) → get_elem? l i ≡ some v → f v ≤ g v) → total f l ≤ total g l
  total_le f g [] h = omega arith
  total_le f g (x ∷ xs) h = let one = h 0 x refl in let r = total_le f g xs (λ i v e. h (suc i) v e) in omega arith

  pub total_scaled : (k : ℕ) (f : V → ℕ) (l : List V) → total (λ v. k * f v) l ≡ k * total f l
  total_scaled k f [] = grind arith
  total_scaled k f (x ∷ xs) = let r = total_scaled k f xs in grind arith

  pub at_le : (f : V → ℕ) (l : List V) (i : ℕ) (v : V) → get_elem? l i ≡ some v → f v ≤ total f l
  at_le f [] i v e = absurd (some-ne-none v (sym e))
  at_le f (x ∷ xs) zero v e = let is : f x ≡ f v = ap f (some-injective x v e) in omega arith
  at_le f (x ∷ xs) (suc i) v e = let r = at_le f xs i v e in omega arith

  pub total_zero : (f : V → ℕ) (l : List V) → ((i : ℕ) (v : V) → get_elem? l i ≡ some v → f v ≡ 0) → total f l ≡ 0
  total_zero f [] h = refl
  total_zero f (x ∷ xs) h = let one = h 0 x refl in let r = total_zero f xs (λ i v e. h (suc i) v e) in omega arith

  -- where one has all of g, no other has any
  pub others_none : (g : V → ℕ) (l : List V) (i : ℕ) (v : V) → get_elem? l i ≡ some v → total g l ≡ g v → (j : ℕ) (u : V) → j ≢ i → get_elem? l j ≡ some u → g u ≡ 0
  others_none g [] i v e all j u apart e' = absurd (some-ne-none v (sym e))
  others_none g (x ∷ xs) zero v e all zero u apart e' = absurd (apart refl)
  others_none g (x ∷ xs) zero v e all (suc j) u apart e' = let is : g x ≡ g v = ap g (some-injective x v e) in let r = at_le g xs j u e' in omega arith
  others_none g (x ∷ xs) (suc i) v e all zero u apart e' = let is : g x ≡ g u = ap g (some-injective x u e') in let r = at_le g xs i v e in omega arith
  others_none g (x ∷ xs) (suc i) v e all (suc j) u apart e' =
      let r = at_le g xs i v e in others_none g xs i v e (omega arith) j u (λ s. apart (ap suc s)) e'

  -- where no other has any of f, the total is this one's
  pub total_only : (f : V → ℕ) (l : List V) (i : ℕ) (v : V) → get_elem? l i ≡ some v → ((j : ℕ) (u : V) → j ≢ i → get_elem? l j ≡ some u → f u ≡ 0) → total f l ≡ f v
  total_only f [] i v e h = absurd (some-ne-none v (sym e))
  total_only f (x ∷ xs) zero v e h = let is : f x ≡ f v = ap f (some-injective x v e) in let r = total_zero f xs (λ j u e'. h (suc j) u (λ s. absurd (omega arith)) e') in omega arith
  total_only f (x ∷ xs) (suc i) v e h = let first = h 0 x (λ s. absurd (omega arith)) refl in let r = total_only f xs i v e (λ j u apart e'. h (suc j) u (λ s. apart (omega arith)) e') in omega arith

  -- where there is some of f, one has some
  pub some_view : (f : V → ℕ) (l : List V) → 1 ≤ total f l → (i : ℕ) × (v : V) × (get_elem? l i ≡ some v) × (1 ≤ f v)
  some_view f [] h = absurd (omega arith)
  some_view f (x ∷ xs) h = dite (ℕ_discrete (f x) 0)
      (λ none. (let r = some_view f xs (omega arith) in (suc r.0, r.1, r.2, r.3)))
      (λ some_here. (0, x, refl, omega arith))

pub times_append : (k : ℕ) (xs ys : List ℕ) → times k (xs ++ ys) ≡ times k xs + times k ys
times_append k [] ys = omega arith
times_append k (x ∷ xs) ys = let r = times_append k xs ys in omega arith
