-- One poll as a whole: the calls of a set from the beginning of a poll to that of the next.
use Rattle.std.specs.Prelude.{◌≡◌, ◌≢◌, ◌⊎◌, ⊤, ℕ, ◌<◌, true, List, [], ◌∷◌, length, slice_index_or, Option, Some, None}
use Rattle.lw_poller.specs.declared.poller.Active.{Active}
use Rattle.lw_poller.specs.declared.poller.Timed.{Timed}
use Rattle.lw_poller.specs.Pollers.{Pollers, AreKept}
use Rattle.lw_poller.specs.LocalDue.{IsNextActive, IsNextTimed}
use Rattle.lw_poller.specs.Changes.{with_active, AddsTimed, Pauses, Resumes, Removes, GivesActive, GivesTimed}

-- one call: the set after it, and the number of the poller that it gave, if it gave one
pub record Call : Type 0 where
  pub after : Pollers
  pub given : Option ℕ

-- which numbers may be resumed: all, or all but one
abbrev pub all_numbers : ℕ → Type 0
all_numbers _ = ⊤

abbrev pub all_but : ℕ → ℕ → Type 0
all_but number k = k ≢ number

-- a poller is added, paused or removed, or one whose number may be is resumed
abbrev pub Changes : (ℕ → Type 0) → Pollers → Pollers → Type 0
Changes may_resume s t =
    ((number : ℕ) × (t ≡ with_active number s))
    ⊎ ((number : ℕ) × (now : ℕ) × (period : ℕ) × AddsTimed number now period s t)
    ⊎ ((number : ℕ) × Pauses number s t)
    ⊎ ((number : ℕ) × (now : ℕ) × may_resume number × Resumes number now s t)
    ⊎ ((number : ℕ) × Removes number s t)

-- the next active or timed poller is given
abbrev pub Gives : ℕ → Pollers → Pollers → Type 0
Gives number s t = (place : ℕ) × ((IsNextActive s place × GivesActive place number s t) ⊎ (IsNextTimed s place × GivesTimed place number s t))

abbrev pub IsCall : (ℕ → Type 0) → Pollers → Call → Type 0
IsCall may_resume s c = (Changes may_resume s c.after × (c.given ≡ None)) ⊎ ((number : ℕ) × Gives number s c.after × (c.given ≡ Some number))

-- calls that follow one another in one poll, the first of them on this set, and which numbers they may resume
abbrev pub AreCalls : (ℕ → Type 0) → Pollers → List Call → Type 0
AreCalls may_resume s [] = ⊤
AreCalls may_resume s (c ∷ cs) = AreKept s × IsCall may_resume s c × AreCalls may_resume c.after cs

-- each live poller of this number is paused
pub record IsPaused (number : ℕ) (s : Pollers) : Type 0 where
  pub active : (k : ℕ) (d : Active) → k < length s.active → (slice_index_or s.active k d).number ≡ number → (slice_index_or s.active k d).paused ≡ true
  pub timed : (k : ℕ) (d : Timed) → k < length s.timed → (slice_index_or s.timed k d).number ≢ number

-- none of the calls gives a poller of this number
abbrev pub NeverGiven : ℕ → List Call → Type 0
NeverGiven number [] = ⊤
NeverGiven number (c ∷ cs) = (c.given ≢ Some number) × NeverGiven number cs

-- what a call gives, no later one gives again
abbrev pub GivenOnce : List Call → Type 0
GivenOnce [] = ⊤
GivenOnce (c ∷ cs) = ((number : ℕ) → c.given ≡ Some number → NeverGiven number cs) × GivenOnce cs
