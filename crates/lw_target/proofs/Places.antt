-- Elements by their place, where one was written.
use Rattle.std.proofs.Common.{ℕ, zero, suc, ◌≡◌, ◌<◌, ◌+◌, List, [], ◌∷◌, length, map, get_or, arith, refl, sym, ap, ◌∙◌, subst}
use Rattle.std.specs.Prelude.{IfSome, Option, Some, None, slice_get, option_map, slice_set, count_by, Bool, cond, ◌==◌, true, false}
use Rattle.std.proofs.lemmas.Option.{none-some, get_or_from_slice_get, same_Some, slice_get_within}
use Rattle.std.proofs.lemmas.List.{map-set, set-get_or}
use Rattle.std.proofs.lemmas.Bool.{eqb-true, eqb-false}
use Rattle.std.proofs.lemmas.List.Sums.{sum_by-set}

pub got_same : {X : Type 0} (xs : List X) (i : ℕ) (y : X) → i < length xs → slice_get (slice_set xs i y) i ≡ Some y
got_same [] i y h = absurd (omega (arith, h))
got_same (x ∷ xs) zero y h = refl
got_same (x ∷ xs) (suc i) y h = got_same xs i y (omega (arith, h))

pub got_other : {X : Type 0} (xs : List X) (i j : ℕ) (y : X) → (j ≡ i → ⊥) → slice_get (slice_set xs i y) j ≡ slice_get xs j
got_other [] i j y h = refl
got_other (x ∷ xs) zero zero y h = absurd (h refl)
got_other (x ∷ xs) zero (suc j) y h = refl
got_other (x ∷ xs) (suc i) zero y h = refl
got_other (x ∷ xs) (suc i) (suc j) y h = got_other xs i j y (λ e. h (omega (arith, e)))

map_nothing : {X : Type 0} (o : Option X) → o ≡ option_map (λ y. y) o
map_nothing None = refl
map_nothing (Some y) = refl

-- one element was changed by f
pub got : {X : Type 0} (f : X → X) (xs : List X) (i : ℕ) (x : X) → slice_get xs i ≡ Some x → (j : ℕ)
    → slice_get (slice_set xs i (f x)) j ≡ option_map (λ y. cond (i == j) (f y) y) (slice_get xs j)
got f xs i x is j = at (i == j) refl
  where
    at : (b : Bool) → (i == j) ≡ b → slice_get (slice_set xs i (f x)) j ≡ option_map (λ y. cond b (f y) y) (slice_get xs j)
    at true e =
        let e' : i ≡ j = eqb-true i j e in
        ap (slice_get (slice_set xs i (f x))) (sym e') ∙ got_same xs i (f x) (slice_get_within xs i x is)
        ∙ ap (option_map f) (sym is) ∙ ap (λ k. option_map f (slice_get xs k)) e'
    at false e = got_other xs i j (f x) (λ w. eqb-false i j e (sym w)) ∙ map_nothing (slice_get xs j)

pub map_kept : {X Y : Type 0} (f : X → Y) (xs : List X) (i : ℕ) (x y : X) → slice_get xs i ≡ Some x → f y ≡ f x → map f (slice_set xs i y) ≡ map f xs
map_kept f xs i x y is same =
    map-set f xs i y
    ∙ ap (λ z. slice_set (map f xs) i z) (same ∙ ap f (sym (get_or_from_slice_get xs i x x is)))
    ∙ sym (map-set f xs i (get_or xs i x))
    ∙ ap (map f) (set-get_or xs i x)

pub counted : {X : Type 0} (p : X → Bool) (xs : List X) (i : ℕ) (x y : X) → slice_get xs i ≡ Some x
    → count_by p (slice_set xs i y) + cond (p x) 1 0 ≡ count_by p xs + cond (p y) 1 0
counted p xs i x y is =
    ap (λ z. count_by p (slice_set xs i y) + cond (p z) 1 0) (sym (get_or_from_slice_get xs i x x is))
    ∙ sum_by-set (λ z. cond (p z) 1 0) xs i y x (slice_get_within xs i x is)

pub at_some : {X : Type 0} (r : Option X) (P : X → Type 0) (x : X) → r ≡ Some x → IfSome r P → P x
at_some None P x e h = absurd (none-some x e)
at_some (Some y) P x e h = subst P (same_Some y x e) h
