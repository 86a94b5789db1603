-- The events of a turn.
use Rattle.std.specs.Prelude.{◌≡◌, ◌≢◌, ◌⊎◌, ℕ, zero, suc, ◌+◌, ◌<◌, ◌≤◌, List, [], ◌∷◌, ◌++◌, length, map, remove, All, slice_index_or}
use Rattle.lw_base.specs.Letters.{FitsRing}
use Rattle.lw_place.specs.declared.place.Place.{Place}
use Rattle.lw_place.specs.declared.place.Place.TheVariants as place
use Rattle.lw_ring.specs.Calls.{InTurn}
use Rattle.lw_thread.specs.Threads.{Thread, IsAbove, last_of}
use Rattle.lw_event.specs.Events.{letter_of, event_fits}
use Rattle.lw_event.specs.Calls.{WasEmpty}
use Rattle.lw_event.specs.Desks.{most_taken}
use Rattle.lw_event.specs.declared.event.Event.{Event}
use Rattle.lw_event.specs.declared.event.Event.TheVariants.{Arrive, Order}
use Rattle.lw_event.specs.declared.refusal.EventRefusal.{EventRefusal}
use Rattle.lw_event.specs.declared.refusal.EventRefusal.TheVariants as refusal
use Rattle.lw_station.specs.declared.stop.Stop.{Stop}
use Rattle.lw_station.specs.declared.stop.Stop.TheVariants as stop
use Rattle.lw_station.specs.Stations.{StationEnd}
use Rattle.lw_station.specs.Posting.{Posts}
use Rattle.lw_station.specs.Stopping.{RefusesTo}

module _ {L F M B : Type 0} where
  -- the thread at another place
  abbrev pub at_place : Place → Thread L F M B → Thread L F M B
  at_place p t = record t { seat = record t.seat { place = p } }

  -- a thread that has arrived: it stands in the reactor's list, with one hop more
  abbrev pub arrived : ℕ → ℕ → Thread L F M B → Thread L F M B
  arrived reactor round t = record (at_place (place.List reactor) t) { trail = t.trail ++ record { round = round; reactor = reactor } ∷ [] }

  -- the event of a thread that leaves for a reactor, by the order of a round
  abbrev pub departure : ℕ → ℕ → Thread L F M B → Event B M L F
  departure round to t = Arrive 0 0 round t.seat.thread (at_place (place.Event to) t)

  -- a thread is on its way to the reactor, by a round above that of its last hop
  pub record StillArrives (reactor round : ℕ) (t : Thread L F M B) : Type 0 where
    pub on_its_way : t.seat.place ≡ place.Event reactor
    pub above : IsAbove round (last_of t.trail)

  -- the refused event is an arrival of this thread
  abbrev pub IsArrivalOf : Event B M L F → Thread L F M B → Type 0
  IsArrivalOf (Arrive sender number round id thread) t = thread ≡ t
  IsArrivalOf (Order sender number round thread to) t = ⊥

  abbrev pub IsArrival : EventRefusal B M L F → Thread L F M B → Type 0
  IsArrival (refusal.Spent event count) t = IsArrivalOf event t
  IsArrival (refusal.NoMemory event) t = IsArrivalOf event t

  -- the thread of this number is the one at a place of these
  pub record IsAt (threads : List (Thread L F M B)) (number at : ℕ) (t : Thread L F M B) : Type 0 where
    pub range : at < length threads
    pub there : (d : Thread L F M B) → slice_index_or threads at d ≡ t
    pub number_is : t.seat.thread ≡ number

  -- the thread of this number isn't among these
  abbrev pub IsNone : List (Thread L F M B) → ℕ → Type 0
  IsNone threads number = All (λ t. t.seat.thread ≢ number) threads

module _ {L F M B : Type 0} where
  -- the thread of an order isn't in the list, or the order isn't of a later round than its last hop
  abbrev pub IsPast : ℕ → ℕ → StationEnd L F M B → Type 0
  IsPast round number r = IsNone r.list number ⊎ ((at : ℕ) × (t : Thread L F M B) × IsAt r.list number at t × (IsAbove round (last_of t.trail) → ⊥))

  -- the thread at a place of the list was sent away
  pub record Departs (round number to : ℕ) (old new : StationEnd L F M B) : Type 0 where
    pub at : ℕ
    pub thread : Thread L F M B
    pub is_at : IsAt old.list number at thread
    pub above : IsAbove round (last_of thread.trail)
    pub posted : Posts to (departure round to thread) old.events new.events old.sleeper new.sleeper
    pub station : new ≡ record old { list = remove old.list at; events = new.events; sleeper = new.sleeper }

  -- its event was refused, and it is back, at the end of the list
  pub record DepartsNot (round number to : ℕ) (why : Stop) (old new : StationEnd L F M B) : Type 0 where
    pub at : ℕ
    pub thread : Thread L F M B
    pub is_at : IsAt old.list number at thread
    pub above : IsAbove round (last_of thread.trail)
    pub refused : RefusesTo to old.events why
    pub station : new ≡ record old { list = remove old.list at ++ thread ∷ [] }

  -- the thread at a place of those that are held was started, at the end of the list
  pub record Starts (number : ℕ) (old new : StationEnd L F M B) : Type 0 where
    pub at : ℕ
    pub thread : Thread L F M B
    pub is_at : IsAt old.held number at thread
    pub station : new ≡ record old { held = remove old.held at; list = old.list ++ at_place (place.List old.number) thread ∷ [] }

  -- An order is obeyed. In round 0 the thread is started, where it is held; in another it is sent away, where it is in the list
  -- and the round is above that of its last hop. Else nothing is done.
  abbrev pub Obeys : ℕ → ℕ → ℕ → StationEnd L F M B → StationEnd L F M B → Type 0
  Obeys zero number to old new = Starts number old new ⊎ (IsNone old.held number × (new ≡ old))
  Obeys (suc round) number to old new = Departs (suc round) number to old new ⊎ (IsPast (suc round) number old × (new ≡ old))

  -- it stopped at an order, which is one to send a thread away
  abbrev pub ObeysNot : ℕ → ℕ → ℕ → Stop → StationEnd L F M B → StationEnd L F M B → Type 0
  ObeysNot zero number to why old new = ⊥
  ObeysNot (suc round) number to why old new = DepartsNot (suc round) number to why old new

  -- an event is handled
  abbrev pub Handles : Event B M L F → StationEnd L F M B → StationEnd L F M B → Type 0
  Handles (Arrive sender number round id thread) old new = new ≡ record old { list = old.list ++ arrived old.number round thread ∷ [] }
  Handles (Order sender number round thread to) old new = Obeys round thread to old new

  -- It stopped at an event. A thread that has arrived stands in the list, and there was no memory to note its hop.
  abbrev pub HandlesNot : Event B M L F → Stop → StationEnd L F M B → StationEnd L F M B → Type 0
  HandlesNot (Arrive sender number round id thread) why old new = (why ≡ stop.NoMemory) × (new ≡ record old { list = old.list ++ at_place (place.List old.number) thread ∷ [] })
  HandlesNot (Order sender number round thread to) why old new = ObeysNot round thread to why old new

  -- this event is the next of those that were taken, before these, and fits the reactor
  pub record IsNext (event : Event B M L F) (rest : List (Event B M L F)) (s : StationEnd L F M B) : Type 0 where
    pub batch : s.events.batch ≡ event ∷ rest
    pub fits : FitsRing event_fits s.number s.events.recv.family event

  -- the station once all that was taken but these was handed out
  abbrev pub with_batch : List (Event B M L F) → StationEnd L F M B → StationEnd L F M B
  with_batch rest s = record s { events = record s.events { batch = rest } }

  -- the next event is handed out, and handled
  pub record HandlesNext (event : Event B M L F) (old new : StationEnd L F M B) : Type 0 where
    pub rest : List (Event B M L F)
    pub next : IsNext event rest old
    pub handled : Handles event (with_batch rest old) new

  -- it stopped at the next event, which was handed out. Those behind it stay.
  pub record StopsNext (event : Event B M L F) (why : Stop) (old new : StationEnd L F M B) : Type 0 where
    pub rest : List (Event B M L F)
    pub next : IsNext event rest old
    pub stopped : HandlesNot event why (with_batch rest old) new

  -- events are handed out and handled, in order
  abbrev pub HandlesEach : List (Event B M L F) → StationEnd L F M B → StationEnd L F M B → Type 0
  HandlesEach [] old new = new ≡ old
  HandlesEach (e ∷ es) old new = (mid : StationEnd L F M B) × HandlesNext e old mid × HandlesEach es mid new

  -- One take of the ring gave this batch: at most eight events, fewer only where the ring was empty. There is room for each thread
  -- that may come or start.
  pub record Takes (batch : List (Event B M L F)) (old new : StationEnd L F M B) : Type 0 where
    pub few : length batch ≤ most_taken
    pub order : InTurn old.events.recv.hand (map letter_of batch) new.events.recv.hand
    pub fewer : length batch < most_taken → (new.events.recv.hand ≡ []) × WasEmpty new.events
    pub room : length old.list + most_taken ≤ new.room
    pub taken : new ≡ record old {
      room = new.room;
      events = record old.events {
        recv = record old.events.recv { taken = old.events.recv.taken ++ map letter_of batch; hand = new.events.recv.hand };
        batch = batch;
      };
    }

  -- the events of a turn: one take, and each that it gave is handled
  pub record HandlesAll (old new : StationEnd L F M B) : Type 0 where
    pub batch : List (Event B M L F)
    pub mid : StationEnd L F M B
    pub taken : Takes batch old mid
    pub handled : HandlesEach batch mid new

  -- one take, of which some were handled, and it stopped at the next one
  pub record HandlesUpTo (why : Stop) (old new : StationEnd L F M B) : Type 0 where
    pub batch : List (Event B M L F)
    pub mid : StationEnd L F M B
    pub taken : Takes batch old mid
    pub done : List (Event B M L F)
    pub before : StationEnd L F M B
    pub handled : HandlesEach done mid before
    pub event : Event B M L F
    pub stopped : StopsNext event why before new

  -- it stopped: for want of room, before it took any, or at one of them
  abbrev pub HandlingStops : Stop → StationEnd L F M B → StationEnd L F M B → Type 0
  HandlingStops why old new = ((why ≡ stop.NoMemory) × (new ≡ old)) ⊎ HandlesUpTo why old new
