-- Why a reactor stops whose event was refused, and what comes back.
use Rattle.std.proofs.Common.{◌≡◌, ◌<◌, ℕ, [], length, None, refl, sym, subst, true, false}
use Rattle.lw_ring.specs.Ends.{Sender}
use Rattle.lw_thread.specs.Runs.{RunId}
use Rattle.lw_thread.specs.Threads.{Thread}
use Rattle.lw_event.specs.Letters.{Letter}
use Rattle.lw_event.specs.Calls.{IsRefused}
use Rattle.lw_event.specs.Desks.{Desk}
use Rattle.lw_event.specs.Sleepers.{SleeperEnd}
use Rattle.lw_event.specs.declared.event.Event.{Event}
use Rattle.lw_event.specs.declared.refusal.EventRefusal.{EventRefusal}
use Rattle.lw_event.specs.declared.refusal.EventRefusal.TheVariants as refusal
use Rattle.lw_station.specs.declared.stop.Stop.{Stop}
use Rattle.lw_station.specs.declared.stop.Stop.TheVariants as stop
use Rattle.lw_station.specs.Posting.{StopOf}
use Rattle.lw_station.specs.Stopping.{DeskStops, RefusesTo}
use Rattle.lw_station.specs.Handling.{IsArrival, IsArrivalOf}

module _ {B M L F : Type 0} where
  refuses_own : (to : ℕ) (event : Event B M L F) (d : Desk B M L F) (r : EventRefusal B M L F) (s : Stop)
      → to < length d.ends → IsRefused to event d r → StopOf d.number to r s → RefusesTo to d s
  refuses_own to event d (refusal.Spent back count) s range refused is =
      subst (RefusesTo to d) (sym is) (refl, record { own = refl; range = range; spent = λ e. record { most = (refused e).told; sent = (refused e).most } })
  refuses_own to event d (refusal.NoMemory back) s range refused is =
      subst (RefusesTo to d) (sym is) (record { range = range; room = λ e. (refused e).room })

  -- the end that refused it shows why
  pub stop_refuses : (from to : ℕ) (event : Event B M L F) (d : Desk B M L F) (r : EventRefusal B M L F) (s : Stop)
      → from ≡ d.number → to < length d.ends → IsRefused to event d r → StopOf from to r s → RefusesTo to d s
  stop_refuses from to event d r s own range refused is = refuses_own to event d r s range refused (subst (λ n. StopOf n to r s) own is)

  -- whatever end refuses is one of the desk's
  pub refuses_stops : (to : ℕ) (d : Desk B M L F) (s : Stop) → RefusesTo to d s → DeskStops d s
  refuses_stops to d stop.NoMemory h = tt
  refuses_stops to d (stop.Spent true from at count) h = subst (λ n. DeskStops d (stop.Spent true from n count)) (sym h.0) h.1
  refuses_stops to d (stop.Spent false from at count) h = h

  pub stop_stays : (from to : ℕ) (event : Event B M L F) (d e : Desk B M L F) (y z : SleeperEnd) (r : EventRefusal B M L F) (s : Stop)
      → from ≡ d.number → to < length d.ends → IsRefused to event d r × (e ≡ d) × (z ≡ y) → StopOf from to r s → DeskStops e s × (e ≡ d) × (z ≡ y)
  stop_stays from to event d e y z r s own range h is =
      (subst (λ (x : Desk B M L F). DeskStops x s) (sym h.1) (refuses_stops to d s (stop_refuses from to event d r s own range h.0 is)), h.1, h.2)

  -- an end of this desk, where there is none at a place
  some_end : Desk B M L F → Sender Letter (RunId F)
  some_end d = record { queue = d.recv.queue; latch = None; number = 0; family = None; sender = 0; sent = []; found = 0 }

  -- what comes back is what was given
  pub back_of : (to : ℕ) (event : Event B M L F) (d : Desk B M L F) (r : EventRefusal B M L F) (t : Thread L F M B) → IsRefused to event d r → IsArrival r t → IsArrivalOf event t
  back_of to event d (refusal.Spent back count) t h a = subst (λ (x : Event B M L F). IsArrivalOf x t) (h (some_end d)).whole a
  back_of to event d (refusal.NoMemory back) t h a = subst (λ (x : Event B M L F). IsArrivalOf x t) (h (some_end d)).whole a

  pub comes_back : (to : ℕ) (event : Event B M L F) (d : Desk B M L F) (r : EventRefusal B M L F) (t : Thread L F M B) → IsRefused to event d r → IsArrivalOf event t → IsArrival r t
  comes_back to event d (refusal.Spent back count) t h a = subst (λ (x : Event B M L F). IsArrivalOf x t) (sym (h (some_end d)).whole) a
  comes_back to event d (refusal.NoMemory back) t h a = subst (λ (x : Event B M L F). IsArrivalOf x t) (sym (h (some_end d)).whole) a
