-- What the calls change in a set of pollers.
use Rattle.std.specs.Prelude.{◌≡◌, ◌⊎◌, ℕ, ◌+◌, ◌-◌, ◌<◌, ◌≤◌, Bool, true, false, List, [], ◌∷◌, ◌++◌, length, nat_lt, if◌then◌else◌, slice_index_or, slice_set}
use Rattle.std.specs.List.{insert, remove}
use Rattle.lw_poller.specs.declared.poller.Active.{Active}
use Rattle.lw_poller.specs.declared.poller.Timed.{Timed}
use Rattle.lw_poller.specs.declared.poller.Resting.{Resting}
use Rattle.lw_poller.specs.declared.names.PollerRefusal.{PollerRefusal}
use Rattle.lw_poller.specs.declared.names.PollerRefusal.TheVariants.{Full, Unknown, NoMemory}
use Rattle.lw_poller.specs.declared.places.Spot.{Spot}
use Rattle.lw_poller.specs.declared.places.Spot.TheVariants as spot
use Rattle.lw_poller.specs.Numbers.{most_pollers, IsWith}
use Rattle.lw_poller.specs.Pollers.{Pollers, active_number, timed_number, resting_number, times}
use Rattle.lw_poller.specs.LocalDue.{due_at}

-- the poller with this number stands at the place
abbrev pub Stands : {X : Type 0} → (X → ℕ) → List X → ℕ → ℕ → Type 0
Stands {X} number_of xs place number = (place < length xs) × ((d : X) → number_of (slice_index_or xs place d) ≡ number)

-- the poller with this number stands at this spot
abbrev pub IsSpot : Pollers → ℕ → Spot → Type 0
IsSpot s number (spot.Active place) = Stands active_number s.active place number
IsSpot s number (spot.Timed place) = Stands timed_number s.timed place number
IsSpot s number (spot.Resting place) = Stands resting_number s.resting place number

-- the number is the least that no live poller has
pub record IsLeastFree (s : Pollers) (number : ℕ) : Type 0 where
  pub below : number < most_pollers
  pub free : times number s ≡ 0
  pub least : (k : ℕ) → k < number → times k s ≡ 1

-- each number is that of a live poller
abbrev pub AreAllTaken : Pollers → Type 0
AreAllTaken s = (k : ℕ) → k < most_pollers → times k s ≡ 1

-- the poller was put in behind all that are due no later, before all that are due later
pub record IsQueued (p : Timed) (xs ys : List Timed) : Type 0 where
  pub place : ℕ
  pub within : place ≤ length xs
  pub earlier : (k : ℕ) (d : Timed) → k < place → (slice_index_or xs k d).due ≤ p.due
  pub later : (k : ℕ) (d : Timed) → place ≤ k → k < length xs → p.due < (slice_index_or xs k d).due
  pub inserted : ys ≡ insert xs place p

-- an active poller is added, registered last
abbrev pub with_active : ℕ → Pollers → Pollers
with_active number s = record s { active = s.active ++ record { number = number; paused = false } ∷ [] }

-- a timed poller is added, which this poll doesn't call
pub record AddsTimed (number now period : ℕ) (s t : Pollers) : Type 0 where
  pub queued : IsQueued (record { number = number; period = period; due = due_at now period }) s.timed t.timed
  pub over : IsWith number s.over t.over
  pub others : t ≡ record s { timed = t.timed; over = t.over }

-- why a poller isn't added
abbrev pub IsNotAdded : Pollers → PollerRefusal → Type 0
IsNotAdded s Full = AreAllTaken s
IsNotAdded s Unknown = ⊥
IsNotAdded s NoMemory = (k : ℕ) × (k < most_pollers) × (times k s ≡ 0)

-- the active poller at a place is paused, or awake
abbrev pub with_paused : Bool → ℕ → ℕ → Pollers → Pollers
with_paused paused place number s = record s { active = slice_set s.active place (record { number = number; paused = paused }) }

-- the timed poller at a place is paused
abbrev pub laid_down : ℕ → Timed → Pollers → Pollers
laid_down place p s = record s { timed = remove s.timed place; resting = s.resting ++ record { number = p.number; period = p.period } ∷ [] }

-- the poller is paused, whether it was before or not
abbrev pub Pauses : ℕ → Pollers → Pollers → Type 0
Pauses number s t =
    ((place : ℕ) × Stands active_number s.active place number × (t ≡ with_paused true place number s))
    ⊎ ((place : ℕ) × Stands timed_number s.timed place number × ((d : Timed) → t ≡ laid_down place (slice_index_or s.timed place d) s))
    ⊎ ((place : ℕ) × Stands resting_number s.resting place number × (t ≡ s))

-- the paused timed poller at a place wakes at `now`, when its due time is set
pub record Wakes (place now : ℕ) (s t : Pollers) : Type 0 where
  pub queued : (d : Resting) → let p = slice_index_or s.resting place d in
      IsQueued (record { number = p.number; period = p.period; due = due_at now p.period }) s.timed t.timed
  pub others : t ≡ record s { timed = t.timed; resting = remove s.resting place }

-- the poller isn't paused any more, if it was. One that wasn't stays as it is
abbrev pub Resumes : ℕ → ℕ → Pollers → Pollers → Type 0
Resumes number now s t =
    ((place : ℕ) × Stands active_number s.active place number × (t ≡ with_paused false place number s))
    ⊎ ((place : ℕ) × Stands timed_number s.timed place number × (t ≡ s))
    ⊎ ((place : ℕ) × Stands resting_number s.resting place number × Wakes place now s t)

-- how many of the first `many` are left once the one at the place is gone
abbrev pub less_at : ℕ → ℕ → ℕ
less_at place many = if nat_lt place many then many - 1 else many

abbrev pub without_active : ℕ → Pollers → Pollers
without_active place s = record s { active = remove s.active place; turn = less_at place s.turn; before = less_at place s.before }

-- the poller is gone
abbrev pub Removes : ℕ → Pollers → Pollers → Type 0
Removes number s t =
    ((place : ℕ) × Stands active_number s.active place number × (t ≡ without_active place s))
    ⊎ ((place : ℕ) × Stands timed_number s.timed place number × (t ≡ record s { timed = remove s.timed place }))
    ⊎ ((place : ℕ) × Stands resting_number s.resting place number × (t ≡ record s { resting = remove s.resting place }))

-- the call failed because no live poller has the number, and changed nothing
abbrev pub IsUnknown : ℕ → Pollers → Pollers → PollerRefusal → Type 0
IsUnknown number s t e = (e ≡ Unknown) × (times number s ≡ 0) × (t ≡ s)

-- the active poller at a place is given: its turn is over, and that of all before it
abbrev pub GivesActive : ℕ → ℕ → Pollers → Pollers → Type 0
GivesActive place number s t = ((d : Active) → (slice_index_or s.active place d).number ≡ number) × (t ≡ record s { turn = place + 1 })

-- the timed poller at a place is given: this poll doesn't call it again, and its due time is set anew
pub record GivesTimed (place number : ℕ) (s t : Pollers) : Type 0 where
  pub is : (d : Timed) → (slice_index_or s.timed place d).number ≡ number
  pub queued : (d : Timed) → let p = slice_index_or s.timed place d in
      IsQueued (record p { due = due_at s.began p.period }) (remove s.timed place) t.timed
  pub over : IsWith number s.over t.over
  pub others : t ≡ record s { timed = t.timed; over = t.over }
