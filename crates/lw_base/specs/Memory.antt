-- The outside in memory: what a call answers.
use Rattle.std.specs.Prelude.{ℕ, zero, suc, ◌+◌, ◌-◌, ◌==◌, Bool, ◌&&◌, ◌||◌, nat_lt, List, [], ◌∷◌, ◌++◌, length, min, slice_index, if◌then◌else◌, Option, Some, None, Result, Ok, Err}
use Rattle.std.specs.List.{list_any}
use Rattle.lw_base.specs.declared.names.Failed.{Failed}

-- a count that rose by one, or stands still at the greatest u64
abbrev pub counted : ℕ → ℕ
counted count = min (count + 1) 18446744073709551615

-- the call of this number fails, where these calls are to fail
abbrev pub fails_at : List ℕ → ℕ → Bool
fails_at fails call = nat_lt call 18446744073709551615 && list_any (λ n. n == call) fails

-- the count, where the call of this number isn't to fail
abbrev pub unless_it_fails : List ℕ → ℕ → ℕ → Result ℕ Failed
unless_it_fails fails call count = if fails_at fails call then Err (record {}) else Ok count

-- the same for a call that can't move nothing
abbrev pub unless_nothing : List ℕ → ℕ → ℕ → Result ℕ Failed
unless_nothing fails call count = if fails_at fails call || count == 0 then Err (record {}) else Ok count

-- a list's reading of this number, from 0: its last over and over at its end, and 0 where it has none
abbrev pub reading_at : List ℕ → ℕ → ℕ
reading_at list k = slice_index list (min k (length list - 1))

abbrev pub first_readings : List ℕ → ℕ → List ℕ
first_readings list zero = []
first_readings list (suc k) = first_readings list k ++ reading_at list k ∷ []

-- the readings so far, as long as the count of them still rises
abbrev pub list_readings : List ℕ → ℕ → Option (List ℕ)
list_readings list calls = if nat_lt calls 18446744073709551615 then Some (first_readings list calls) else None
