-- What the traits of the outside say.
use Rattle.std.specs.Prelude.{◌≡◌, ◌⊎◌, ◌<◌, ℕ, List, [], ◌∷◌, ◌++◌, Option, Some, None}

-- a count of faults rose; one that stands at the greatest u64 counts as one that rose
abbrev pub Rose : ℕ → ℕ → Type 0
Rose old new = (old < new) ⊎ (new ≡ 18446744073709551615)

-- a clock that tells its readings after a reading told those before it
abbrev pub Continues : Option (List ℕ) → ℕ → Option (List ℕ) → Type 0
Continues before reading None = Unit {0}
Continues before reading (Some after) = (told : List ℕ) × (before ≡ Some told) × (after ≡ told ++ reading ∷ [])

-- a source that told what it had left has given these bytes since, from its front
abbrev pub HasGiven : Option (List ℕ) → List ℕ → Option (List ℕ) → Type 0
HasGiven None bytes after = Unit {0}
HasGiven (Some left) bytes after = (rest : List ℕ) × (after ≡ Some rest) × (left ≡ bytes ++ rest)

-- a sink that told what it held has taken these bytes since, behind that
abbrev pub HasTaken : Option (List ℕ) → List ℕ → Option (List ℕ) → Type 0
HasTaken None bytes after = Unit {0}
HasTaken (Some held) bytes after = after ≡ Some (held ++ bytes)
