-- Flags by number.
use Rattle.std.specs.Prelude.{ℕ, Bool, List, count_by}

-- how many are set
abbrev pub how_many : List Bool → ℕ
how_many fs = count_by (λ f. f) fs
