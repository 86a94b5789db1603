-- What callers see of sleepers.
use Rattle.std.specs.Prelude.{◌≡◌, ℕ, ◌+◌, ◌<◌, List, [], length, map, slice_index_or}
use Rattle.atomic_table.specs.Seated.{TableId}

-- the right to wake a reactor: its parker, and how often this one has woken it
pub record WakerEnd : Type 0 where
  pub parker : TableId
  pub woke : ℕ

-- a reactor's sleeper: its number, its parker, how often it slept, and its right to wake each reactor
pub record SleeperEnd : Type 0 where
  pub reactor : ℕ
  pub parker : TableId
  pub slept : ℕ
  pub wakers : List WakerEnd

-- one wake more
abbrev pub once_more : WakerEnd → WakerEnd
once_more w = record w { woke = w.woke + 1 }

-- has woken nobody
abbrev pub new_waker : TableId → WakerEnd
new_waker parker = record { parker = parker; woke = 0 }

-- the sleeper of a reactor that has not slept
abbrev pub new_sleeper : TableId → ℕ → List WakerEnd → SleeperEnd
new_sleeper parker reactor wakers = record { reactor = reactor; parker = parker; slept = 0; wakers = wakers }

-- sleepers, in order, each with its own parker, that can wake nobody
abbrev pub AreAlone : ℕ → List SleeperEnd → Type 0
AreAlone count ss = (length ss ≡ count) × ((k : ℕ) (s : SleeperEnd) → k < count → slice_index_or ss k s ≡ new_sleeper (slice_index_or ss k s).parker k [])

-- new sleepers, in order: each has its own parker, and can wake each
pub record AreNew (count : ℕ) (ss : List SleeperEnd) : Type 0 where
  pub parkers : List TableId
  pub parker_count : length parkers ≡ count
  pub sleeper_count : length ss ≡ count
  pub each : (k : ℕ) (s : SleeperEnd) (p : TableId) → k < count → slice_index_or ss k s ≡ new_sleeper (slice_index_or parkers k p) k (map new_waker parkers)
