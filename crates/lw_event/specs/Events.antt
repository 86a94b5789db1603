-- What an event tells, and what fits the ring of a reactor.
use Rattle.std.specs.Prelude.{◌≡◌, ℕ, ◌<◌, false, []}
use Rattle.lw_base.specs.declared.message.What.TheVariants as what
use Rattle.lw_place.specs.declared.place.Place.TheVariants as place
use Rattle.lw_thread.specs.Runs.{RunId}
use Rattle.lw_thread.specs.Threads.{Thread, IsThreadOf, IsAbove, last_of}
use Rattle.lw_event.specs.Letters.{Letter}
use Rattle.lw_event.specs.declared.event.Event.{Event}
use Rattle.lw_event.specs.declared.event.Event.TheVariants.{Arrive, Order}

module _ {B M L F : Type 0} where
  -- an arrival tells its round, the number of the thread that it holds and that thread's hops; an order its round, the thread and where to
  abbrev pub letter_of : Event B M L F → Letter
  letter_of (Arrive sender number round id thread) = record { tag = record { sender = sender; number = number; what = what.Arrive round id }; trail = thread.trail }
  letter_of (Order sender number round thread to) = record { tag = record { sender = sender; number = number; what = what.Order round thread to }; trail = [] }

  -- the event with another sender and number
  abbrev pub named : Event B M L F → ℕ → ℕ → Event B M L F
  named (Arrive sender number round id thread) by count = Arrive by count round id thread
  named (Order sender number round thread to) by count = Order by count round thread to

  -- A thread may arrive at a reactor: it is of the run and on its way to there, the round is above that of its last hop, and no
  -- poll of it has answered Stop.
  pub record MayArrive (reactor : ℕ) (run : RunId F) (round : ℕ) (thread : Thread L F M B) : Type 0 where
    pub of_run : IsThreadOf run thread
    pub on_its_way : thread.seat.place ≡ place.Event reactor
    pub round_above : IsAbove round (last_of thread.trail)
    pub going : thread.stopped ≡ false

  -- what fits a reactor's ring, in a run: a thread that may arrive there, under its own number, or an order to one of the run's reactors
  abbrev pub event_fits : ℕ → RunId F → Event B M L F → Type 0
  event_fits reactor run (Arrive sender number round id thread) = (id ≡ thread.seat.thread) × MayArrive reactor run round thread
  event_fits reactor run (Order sender number round thread to) = to < run.places.reactors
