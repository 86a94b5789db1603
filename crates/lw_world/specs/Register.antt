-- A list of states that counts those of each key.
use Rattle.std.specs.Prelude.{◌≡◌, ℕ, zero, suc, ◌==◌, ◌<◌, ◌≤◌, List, [], ◌∷◌, ◌++◌, length, sum_by, slice_index, slice_index_or, if◌then◌else◌}

-- the states, and how many keys there are
pub record Registered (S : Type 0) : Type 0 where
  pub states : List S
  pub keys : ℕ

abbrev pub one_at : ℕ → ℕ → ℕ
one_at k c = if c == k then 1 else 0

-- how many states have this key
abbrev pub keyed : {S : Type 0} → (S → ℕ) → ℕ → List S → ℕ
keyed key k states = sum_by (λ s. one_at k (key s)) states

pub record IsRegistered {S : Type 0} (key : S → ℕ) (states : List S) (counts : List ℕ) : Type 0 where
  pub few : length states ≤ 81
  pub counted : (k : ℕ) → k < length counts → slice_index counts k ≡ keyed key k states
  pub within : (i : ℕ) (s : S) → i < length states → key (slice_index_or states i s) < length counts

-- f 0, f 1, up to f (n - 1)
abbrev pub tabulate : {S : Type 0} → ℕ → (ℕ → S) → List S
tabulate zero f = []
tabulate (suc n) f = tabulate n f ++ f n ∷ []
