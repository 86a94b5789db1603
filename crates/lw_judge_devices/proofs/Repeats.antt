-- A pattern that is repeated: the place of the next byte, and one byte more.
use Rattle.std.proofs.Common.{◌≡◌, ◌≢◌, ℕ, ◌+◌, ◌*◌, ◌/◌, ◌%◌, ◌<◌, List, [], ◌∷◌, ◌++◌, map, append_assoc, refl, sym, ap, ◌∙◌, arith}
use Rattle.std.specs.List.{range_with_len}
use Rattle.std.proofs.Math.Nat.{mod-add-div'}
use Rattle.std.proofs.lemmas.Nat.{mod-mul-add}
use Rattle.std.proofs.lemmas.List.FromFn.{map-range_with_len_more}

-- behind the last byte comes the first
pub place_first : (a n m place : ℕ) → 0 < m → place ≡ (a + n) % m → place + 1 ≡ m → 0 ≡ (a + (n + 1)) % m
place_first a n m place some is end = sym (ap (λ x. x % m) whole ∙ mod-mul-add ((a + n) / m + 1) m 0 some)
  where
    whole : a + (n + 1) ≡ ((a + n) / m + 1) * m + 0
    whole = omega (arith, mod-add-div' (a + n) m)

pub place_next : (a n m place : ℕ) → 0 < m → place ≡ (a + n) % m → place + 1 ≢ m → place + 1 ≡ (a + (n + 1)) % m
place_next a n m place some is inside = sym (ap (λ x. x % m) whole ∙ mod-mul-add ((a + n) / m) m (place + 1) below)
  where
    whole : a + (n + 1) ≡ ((a + n) / m) * m + (place + 1)
    whole = omega (arith, mod-add-div' (a + n) m)

    below : place + 1 < m
    below = omega arith

-- one item more of a list that is made from numbers
pub pushed_more : {X : Type 0} (f : ℕ → X) (before now after : List X) (a n : ℕ) (x : X) → now ≡ before ++ map f (range_with_len a n) → after ≡ now ++ x ∷ [] → x ≡ f (a + n)
    → after ≡ before ++ map f (range_with_len a (n + 1))
pushed_more f before now after a n x is pushed item =
    pushed ∙ ap (λ l. l ++ x ∷ []) is ∙ append_assoc before (map f (range_with_len a n)) (x ∷ [])
    ∙ ap (λ y. before ++ (map f (range_with_len a n) ++ y ∷ [])) item
    ∙ ap (λ l. before ++ l) (sym (map-range_with_len_more f a n (a + n) refl))
