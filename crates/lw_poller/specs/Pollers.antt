-- What callers see of a set of pollers.
use Rattle.std.specs.Prelude.{◌≡◌, ℕ, ◌+◌, ◌^◌, ◌<◌, ◌≤◌, ◌==◌, List, [], length, if◌then◌else◌}
use Rattle.std.specs.List.{sum_by}
use Rattle.std.specs.List.Sorted.{IsNonDecreasingBy}
use Rattle.std.specs.Int.{bit_at}
use Rattle.lw_poller.specs.declared.poller.Active.{Active}
use Rattle.lw_poller.specs.declared.poller.Timed.{Timed}
use Rattle.lw_poller.specs.declared.poller.Resting.{Resting}
use Rattle.lw_poller.specs.Numbers.{most_pollers}

-- the pollers of one light thread, and how far the poll is that began last
pub record Pollers : Type 0 where
  -- the active ones, in order of registration
  pub active : List Active
  -- the first so many had their turn in this poll: all up to the one given last
  pub turn : ℕ
  -- the first so many were added before this poll
  pub before : ℕ
  -- the timed ones that aren't paused: by due time, and among equal due times in the order in which these were set
  pub timed : List Timed
  -- the timed ones that are paused. They have no due time until they are resumed
  pub resting : List Resting
  -- the set of the numbers of timed ones that were added in this poll, or given in it
  pub over : ℕ
  -- when this poll began
  pub began : ℕ

-- there are none, and no poll has begun
abbrev pub no_pollers : Pollers
no_pollers = record { active = []; turn = 0; before = 0; timed = []; resting = []; over = 0; began = 0 }

abbrev pub active_number : Active → ℕ
active_number p = p.number

abbrev pub timed_number : Timed → ℕ
timed_number p = p.number

abbrev pub resting_number : Resting → ℕ
resting_number p = p.number

abbrev pub due_of : Timed → ℕ
due_of p = p.due

-- how many pollers are live
abbrev pub live_count : Pollers → ℕ
live_count s = length s.active + length s.timed + length s.resting

-- 1 where the numbers are the same, and else 0
abbrev pub same : ℕ → ℕ → ℕ
same k number = if number == k then 1 else 0

-- how many live pollers have the number k
abbrev pub times : ℕ → Pollers → ℕ
times k s =
    sum_by (λ p. same k (active_number p)) s.active
    + sum_by (λ p. same k (timed_number p)) s.timed
    + sum_by (λ p. same k (resting_number p)) s.resting

-- what is true of each set of pollers
pub record AreKept (s : Pollers) : Type 0 where
  -- no two have one number, and each number is below 64
  pub once : (k : ℕ) → times k s ≤ 1
  pub low : (k : ℕ) → most_pollers ≤ k → times k s ≡ 0
  -- the timed ones stand by due time
  pub by_due : IsNonDecreasingBy due_of s.timed
  -- those that had their turn were added before this poll
  pub turn : s.turn ≤ s.before
  pub before : s.before ≤ length s.active

-- the same, and the set of the live numbers is this word
pub record AreNumbered (live : ℕ) (s : Pollers) : Type 0 where
  pub numbers : (k : ℕ) → times k s ≡ bit_at live k
  pub few : live < 2 ^ 64
  pub by_due : IsNonDecreasingBy due_of s.timed
  pub turn : s.turn ≤ s.before
  pub before : s.before ≤ length s.active
