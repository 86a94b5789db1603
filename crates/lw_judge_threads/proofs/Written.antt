-- An element of a list in which one was written.
use Rattle.std.proofs.Common.{◌≡◌, ℕ, zero, suc, List, [], ◌∷◌, Option, Some, None, slice_get, set, refl, ap, arith, inl, inr}
use Rattle.std.specs.Prelude.{◌⊎◌, ◌≢◌}

-- it is the one that was written, or it stood there before
pub written_or_kept : {X : Type 0} (xs : List X) (i k : ℕ) (y x : X) → slice_get (set xs i y) k ≡ Some x → ((k ≡ i) × (x ≡ y)) ⊎ ((k ≢ i) × (slice_get xs k ≡ Some x))
written_or_kept {X = X} [] i k y x is = let wrong : ◌≡◌ {A = Option X} None (Some x) = is in cc
written_or_kept (z ∷ xs) zero zero y x is = inl (refl, cc)
written_or_kept (z ∷ xs) zero (suc k) y x is = inr (λ e. omega (arith, e), is)
written_or_kept (z ∷ xs) (suc i) zero y x is = inr (λ e. omega (arith, e), is)
written_or_kept (z ∷ xs) (suc i) (suc k) y x is = elim (written_or_kept xs i k y x is) [
  | inl w ↦ inl (ap suc w.0, w.1)
  | inr w ↦ inr (λ e. w.0 (omega (arith, e)), w.1)
]

pub slice_get-set_other : {X : Type 0} (xs : List X) (i k : ℕ) (y : X) → k ≢ i → slice_get (set xs i y) k ≡ slice_get xs k
slice_get-set_other [] i k y other = refl
slice_get-set_other (z ∷ xs) zero zero y other = absurd (other refl)
slice_get-set_other (z ∷ xs) zero (suc k) y other = refl
slice_get-set_other (z ∷ xs) (suc i) zero y other = refl
slice_get-set_other (z ∷ xs) (suc i) (suc k) y other = slice_get-set_other xs i k y (λ e. other (ap suc e))
