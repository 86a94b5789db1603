-- The rule of a sleeper's parker.
use Rattle.std.specs.Prelude.{◌≡◌, ℕ, ◌+◌, ◌≤◌, Bool, true, false, List}
use Rattle.lw_base.specs.Totals.{total}
use Rattle.lw_event.specs.declared.signal.SleepView.{SleepView}

-- one wake waits, or none
abbrev pub worth : Bool → ℕ
worth true = 1
worth false = 0

-- a view that has not woken and not slept
abbrev pub first_view : SleepView
first_view = record { woke = 0; slept = 0 }

-- the rule: the wakes that were taken, and one that waits, were all given
abbrev pub Kept : Bool → List SleepView → Type 0
Kept waits views = worth waits + total (λ v. v.slept) views ≤ total (λ v. v.woke) views

-- What each kind of step tells, of the view before it, whether a wake waited before and after, and the view after.

-- a wake is given
abbrev pub Wakes : SleepView → Bool → Bool → SleepView → Type 0
Wakes v before after w = w ≡ record v { woke = v.woke + 1 }

-- a wake that waits is taken
abbrev pub Sleeps : SleepView → Bool → Bool → SleepView → Type 0
Sleeps v before after w = w ≡ record v { slept = v.slept + 1 }
