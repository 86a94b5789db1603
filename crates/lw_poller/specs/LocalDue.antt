-- Which pollers a poll calls, in which order, and when a timed one is due.
use Rattle.std.specs.Prelude.{◌≡◌, ℕ, ◌+◌, ◌-◌, ◌^◌, ◌<◌, ◌≤◌, min, true, false, length, slice_index_or}
use Rattle.lw_poller.specs.declared.poller.Active.{Active}
use Rattle.lw_poller.specs.declared.poller.Timed.{Timed}
use Rattle.lw_poller.specs.Numbers.{Has, Lacks}
use Rattle.lw_poller.specs.Pollers.{Pollers}

-- when a timed poller is due whose due time is set at `now`: at most the greatest u64
abbrev pub due_at : ℕ → ℕ → ℕ
due_at now period = min (now + period) (2 ^ 64 - 1)

-- a poll begins: each live poller was added before it, and none had its turn
abbrev pub begun : ℕ → Pollers → Pollers
begun now s = record s { turn = 0; before = length s.active; over = 0; began = now }

-- The next active poller is the first of those that were registered after the one given last, were added before the poll and
-- aren't paused.
pub record IsNextActive (s : Pollers) (place : ℕ) : Type 0 where
  pub after_last : s.turn ≤ place
  pub before_poll : place < s.before
  pub awake : (d : Active) → (slice_index_or s.active place d).paused ≡ false
  pub first : (k : ℕ) (d : Active) → s.turn ≤ k → k < place → (slice_index_or s.active k d).paused ≡ true

-- each active poller whose turn may still come is paused
abbrev pub NoneActive : Pollers → Type 0
NoneActive s = (k : ℕ) (d : Active) → s.turn ≤ k → k < s.before → (slice_index_or s.active k d).paused ≡ true

-- The next timed poller is, of those that were added before the poll, weren't given in it, aren't paused and are due when the
-- poll began, the one of least due time, and among equal due times the one whose due time was set first.
pub record IsNextTimed (s : Pollers) (place : ℕ) : Type 0 where
  pub within : place < length s.timed
  pub waits : (d : Timed) → Lacks s.over (slice_index_or s.timed place d).number
  pub due : (d : Timed) → (slice_index_or s.timed place d).due ≤ s.began
  pub least : (k : ℕ) (d : Timed) → k < length s.timed → Lacks s.over (slice_index_or s.timed k d).number
      → (slice_index_or s.timed place d).due ≤ (slice_index_or s.timed k d).due
  pub first : (k : ℕ) (d : Timed) → k < place → Has s.over (slice_index_or s.timed k d).number

-- no timed poller that waits is due
abbrev pub NoneDue : Pollers → Type 0
NoneDue s = (k : ℕ) (d : Timed) → k < length s.timed → Lacks s.over (slice_index_or s.timed k d).number
    → s.began < (slice_index_or s.timed k d).due
