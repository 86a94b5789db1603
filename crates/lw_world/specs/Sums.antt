-- Tables of numbers, and what is put together over the numbers below a bound.
use Rattle.std.specs.Prelude.{ℕ, zero, suc, ◌+◌, ◌*◌, nat_lt, List, [], ◌++◌, slice_index, slice_set, if◌then◌else◌}

-- the number in a row and a column of a table: a list, row after row, with room for 81 numbers in each
abbrev pub at : List ℕ → ℕ → ℕ → ℕ
at cells x y = if nat_lt y 81 then slice_index cells (x * 81 + y) else 0

-- the table with v there
abbrev pub put : List ℕ → ℕ → ℕ → ℕ → List ℕ
put cells x y v = slice_set cells (x * 81 + y) v

-- f 0 + f 1 + .. + f (n - 1)
abbrev pub sum_below : ℕ → (ℕ → ℕ) → ℕ
sum_below zero f = 0
sum_below (suc n) f = sum_below n f + f n

-- f 0, then f 1, up to f (n - 1)
abbrev pub texts_below : ℕ → (ℕ → List ℕ) → List ℕ
texts_below zero f = []
texts_below (suc n) f = texts_below n f ++ f n
