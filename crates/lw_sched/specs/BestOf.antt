-- The best reactors for a thread that doesn't stay, of a list of them, and with one more before the list.
use Rattle.std.specs.Prelude.{ℕ, ◌+◌, ◌<◌, nat_le, cond, List, Option, Some, None, IfSome}
use Rattle.lw_base.specs.Masks.{allows}
use Rattle.lw_base.specs.Plan.{with_room, least_planned}
use Rattle.lw_sched.specs.declared.best.Mover.{Mover}
use Rattle.lw_sched.specs.declared.best.Best.{Best}

-- the best of some reactors, where `loads` is planned
abbrev pub best_of : Mover → (ℕ → ℕ) → List ℕ → Best
best_of m loads ds = record { room = with_room m.limits loads m.load ds; least = least_planned loads ds }

-- the first of least planned load, where d stands before the others
abbrev pub lesser : (ℕ → ℕ) → ℕ → Option ℕ → Option ℕ
lesser loads d None = Some d
lesser loads d (Some b) = cond (nat_le (loads d) (loads b)) (Some d) (Some b)

-- the best, where d stands before the others and counts if the mask allows it
abbrev pub looked : Mover → (ℕ → ℕ) → ℕ → ℕ → Best → Best
looked m loads reactors d b = cond (allows m.mask reactors d)
    (record { room = cond (nat_le (loads d + m.load) m.limits.core) (Some d) b.room; least = lesser loads d b.least })
    b

-- both are among the first n reactors
abbrev pub IsBelow : ℕ → Best → Type 0
IsBelow n b = IfSome b.room (λ d. d < n) × IfSome b.least (λ d. d < n)
