-- A text as its lines, and the number that digits write. Each line has its line feed, but for a last one that lacks it.
use Rattle.std.specs.Prelude.{ℕ, ◌+◌, ◌-◌, ◌*◌, ◌==◌, Bool, true, false, List, [], ◌∷◌, length, position, if◌then◌else◌, Some, None}

abbrev pub is_feed : ℕ → Bool
is_feed b = b == 10

-- a byte put before the first line
abbrev pub put_on : ℕ → List (List ℕ) → List (List ℕ)
put_on b [] = (b ∷ []) ∷ []
put_on b (p ∷ ps) = (b ∷ p) ∷ ps

abbrev pub pieces : List ℕ → List (List ℕ)
pieces [] = []
pieces (b ∷ bs) = if is_feed b then (b ∷ []) ∷ pieces bs else put_on b (pieces bs)

-- the length of a text's first line
abbrev pub line_length : List ℕ → ℕ
line_length bs = elim (position is_feed bs) [ Some i ↦ i + 1 | None ↦ length bs ]

abbrev pub is_nil : {X : Type 0} → List X → Bool
is_nil [] = true
is_nil (x ∷ xs) = false

-- the number that digits write behind those of n
abbrev pub value_from : ℕ → List ℕ → ℕ
value_from n [] = n
value_from n (b ∷ bs) = value_from (n * 10 + (b - 48)) bs
