-- What a reactor sends.
use Rattle.std.specs.Prelude.{◌≡◌, ℕ, true, slice_index_or, slice_set}
use Rattle.lw_event.specs.declared.event.Event.{Event}
use Rattle.lw_event.specs.declared.event.Event.TheVariants.{Order}
use Rattle.lw_event.specs.declared.refusal.EventRefusal.{EventRefusal}
use Rattle.lw_event.specs.declared.refusal.EventRefusal.TheVariants as refusal
use Rattle.lw_event.specs.Calls.{IsSent}
use Rattle.lw_event.specs.Desks.{Desk}
use Rattle.lw_event.specs.Sleepers.{SleeperEnd, WakerEnd, once_more}
use Rattle.lw_station.specs.declared.stop.Stop.{Stop}
use Rattle.lw_station.specs.declared.stop.Stop.TheVariants as stop

-- a reactor was woken once
abbrev pub IsWoken : ℕ → SleeperEnd → SleeperEnd → Type 0
IsWoken to old new = (d : WakerEnd) → new ≡ record old { wakers = slice_set old.wakers to (once_more (slice_index_or old.wakers to d)) }

-- why a reactor stops whose event was refused
abbrev pub StopOf : {B M L F : Type 0} → ℕ → ℕ → EventRefusal B M L F → Stop → Type 0
StopOf from to (refusal.Spent event count) s = s ≡ stop.Spent true from to count
StopOf from to (refusal.NoMemory event) s = s ≡ stop.NoMemory

module _ {B M L F : Type 0} where
  -- an event was sent to a reactor, which was woken then
  pub record Posts (to : ℕ) (event : Event B M L F) (old new : Desk B M L F) (before after : SleeperEnd) : Type 0 where
    pub sent : IsSent to event old new
    pub woken : IsWoken to before after

  -- the order of a round was sent to a reactor: it is to send the thread to another, or, in round 0, to start it
  abbrev pub Orders : ℕ → ℕ → ℕ → ℕ → Desk B M L F → Desk B M L F → SleeperEnd → SleeperEnd → Type 0
  Orders at round thread to old new before after = Posts at (Order 0 0 round thread to) old new before after
