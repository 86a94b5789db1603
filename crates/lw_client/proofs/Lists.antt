-- What is read of lists in which one place changed.
use Rattle.std.proofs.Common.{◌≡◌, ◌≢◌, ℕ, ◌<◌, List, length, get_or, set, refl, sym, subst}
use Rattle.std.proofs.lemmas.List.{get_or-set_same, get_or-set_other}
use mathlib.Core.Logic.{dite}
use native.Mathlib.Decide.{ℕ_discrete}

module _ {X : Type 0} (none : X) where
  -- at a place it reads so, and elsewhere as before
  pub record Reads (d : ℕ) (xs ys : List X) (y : X) : Type 0 where
    pub at : get_or ys d none ≡ y
    pub others : (i : ℕ) → i ≢ d → get_or ys i none ≡ get_or xs i none

  pub reads_set : (d : ℕ) (xs : List X) (y : X) → d < length xs → Reads d xs (set xs d y) y
  reads_set d xs y l = record { at = get_or-set_same xs d y none l; others = λ i other. get_or-set_other xs d i y none other }

  pub reads_same : (d : ℕ) (xs : List X) → Reads d xs xs (get_or xs d none)
  reads_same d xs = record { at = refl; others = λ i other. refl }

-- a place is this one or another
pub at_or_other : (P : ℕ → Type 0) (i d : ℕ) → P d → (i ≢ d → P i) → P i
at_or_other P i d p q = dite (ℕ_discrete i d) (λ e. subst P (sym e) p) q
