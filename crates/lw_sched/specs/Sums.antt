-- Numbers of the reactors in a list, by their place.
use Rattle.std.specs.Prelude.{ℕ, ◌≡◌, List, slice_index}

-- the list has the number of each reactor, and past its end there is none
abbrev pub Tells : (ℕ → ℕ) → List ℕ → Type 0
Tells of sums = (c : ℕ) → slice_index sums c ≡ of c
