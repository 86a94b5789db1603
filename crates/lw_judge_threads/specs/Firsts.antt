-- The first line that fails, and the lesser of two.
use Rattle.std.specs.Prelude.{ℕ, ◌+◌, min, Bool, cond, List, [], ◌∷◌, Option, Some, None, option_map}
use Rattle.lw_model.specs.Same.{both}

-- the place, counted from n, of the first item that doesn't fit those before it, the latest of which comes first
abbrev pub first_unfit : {X : Type 0} → (List X → X → Bool) → ℕ → List X → List X → Option ℕ
first_unfit fits n past [] = None
first_unfit fits n past (x ∷ xs) = cond (fits past x) (first_unfit fits (n + 1) (x ∷ past) xs) (Some n)

-- the lesser of two lines, of which each may be none
abbrev pub lesser : Option ℕ → Option ℕ → Option ℕ
lesser None o = o
lesser (Some l) None = Some l
lesser (Some l) (Some m) = Some (min l m)

-- the place, counted from n, of the first item that isn't the wanted one of its place; one more than are wanted isn't, and a lack is no place
abbrev pub first_unlike : {X : Type 0} → (X → X → Bool) → ℕ → List (Option X) → List X → Option ℕ
first_unlike same n wanted [] = None
first_unlike same n [] (x ∷ found) = Some n
first_unlike same n (w ∷ wanted) (x ∷ found) = cond (both same w (Some x)) (first_unlike same (n + 1) wanted found) (Some n)

-- the line of a place, where the first is `base`
abbrev pub at_line : ℕ → Option ℕ → Option ℕ
at_line base o = option_map (λ i. base + i) o
