-- The polls of a turn.
use Rattle.std.specs.Prelude.{◌≡◌, ◌⊎◌, ℕ, ◌+◌, ◌-◌, ◌<◌, ◌≤◌, Bool, true, false, List, [], ◌∷◌, ◌++◌, length, remove, Option, slice_index, slice_index_or, slice_set}
use Rattle.lw_base.specs.declared.message.Tag.{Tag}
use Rattle.lw_place.specs.PlaceWord.{most_threads}
use Rattle.lw_thread.specs.declared.body.Work.{Work}
use Rattle.lw_thread.specs.declared.stop.Polled.{Polled}
use Rattle.lw_thread.specs.declared.stop.Stop.{Stop as Cause}
use Rattle.lw_thread.specs.declared.ending.Why.TheVariants as why
use Rattle.lw_thread.specs.Acts.{Doing}
use Rattle.lw_thread.specs.Rest.{Left}
use Rattle.lw_thread.specs.Polls.{CameTo, Stops}
use Rattle.lw_thread.specs.Threads.{Thread, IsStill, booked}
use Rattle.lw_thread.specs.Endings.{MayEnd, IsEnded, IsNotYet}
use Rattle.lw_event.specs.Desks.{Desk}
use Rattle.lw_event.specs.Sleepers.{SleeperEnd}
use Rattle.lw_station.specs.declared.stop.Stop.{Stop}
use Rattle.lw_station.specs.declared.stop.Stop.TheVariants as stop
use Rattle.lw_station.specs.Stations.{StationEnd}
use Rattle.lw_station.specs.Posting.{Orders}
use Rattle.lw_station.specs.Stopping.{IsStopOf, RefusesTo}
use Rattle.lw_reactor.specs.Workers.{Reads, WorkerEnd}

-- the thread at a place of these
pub record IsThere {X : Type 0} (xs : List X) (at : ℕ) (x : X) : Type 0 where
  pub range : at < length xs
  pub there : (d : X) → slice_index_or xs at d ≡ x

-- these threads were ordered to be started, in order: each of the reactor that is its home
abbrev pub OrdersStarts : {B M L F : Type 0} → List ℕ → List ℕ → Desk B M L F → Desk B M L F → SleeperEnd → SleeperEnd → Type 0
OrdersStarts homes [] d e s z = (e ≡ d) × (z ≡ s)
OrdersStarts {B} {M} {L} {F} homes (t ∷ ts) d e s z =
    (c : Desk B M L F) × (y : SleeperEnd)
    × Orders (slice_index homes t) 0 t (slice_index homes t) d c s y
    × OrdersStarts homes ts c e y z

-- some of these were, and the next one was refused
pub record OrdersSomeStarts {B M L F : Type 0} (homes : List ℕ) (why : Stop) (started : List ℕ) (d e : Desk B M L F) (before after : SleeperEnd) : Type 0 where
  pub done : List ℕ
  pub thread : ℕ
  pub rest : List ℕ
  pub parts : started ≡ done ++ thread ∷ rest
  pub sent : OrdersStarts homes done d e before after
  pub refused : RefusesTo (slice_index homes thread) e why

module _ {L F M B : Type 0} where
  -- these threads were ordered to be started by a station's reactor
  pub record StationStarts (homes started : List ℕ) (old new : StationEnd L F M B) : Type 0 where
    pub sent : OrdersStarts homes started old.events new.events old.sleeper new.sleeper
    pub station : new ≡ record old { events = new.events; sleeper = new.sleeper }

  -- some of these were, and the next one was refused
  pub record StationStartsSome (homes : List ℕ) (why : Stop) (started : List ℕ) (old new : StationEnd L F M B) : Type 0 where
    pub some : OrdersSomeStarts homes why started old.events new.events old.sleeper new.sleeper
    pub station : new ≡ record old { events = new.events; sleeper = new.sleeper }

  -- Where the thread stands, what it has published and its hops are as before the poll; so is whose thread it is.
  pub record Stays (t u : Thread L F M B) : Type 0 where
    pub seat : u.seat ≡ t.seat
    pub load : u.load ≡ t.load
    pub trail : u.trail ≡ t.trail
    pub still : IsStill t u

-- one poll that answered this Stop: what it did, and how far it came
pub record Halts {L F M B : Type 0} (letter : M → L) (tag_of : L → Tag) (fits : ℕ → F → M → Type 0) (marked : L → ℕ → ℕ → L) (runs : L → ℕ → Doing M B → Doing M B → Type 0) (ticks : ℕ → ℕ → Work → Doing M B → Doing M B → Type 0) (takes_back : ℕ → L → Doing M B → Doing M B → Type 0) (now : ℕ) (t u : Thread L F M B) (cause : Cause) : Type 0 where
  pub stops : Stops letter tag_of fits runs now t u
  pub came : CameTo letter tag_of fits marked runs ticks takes_back now t u cause

-- `readings` are those that a clock tells, and `polls` is one poll of a thread at a time
module _ {L F M B C : Type 0} (readings : C → Option (List ℕ)) (polls : ℕ → Thread L F M B → Thread L F M B → Polled → Type 0) where
  -- A thread was polled at the last reading; then the clock was read, and the difference of the two was booked, as busy where it
  -- worked and as idle where not.
  pub record IsPolled (polled : Polled) (t u : Thread L F M B) (before after : C) (now later : ℕ) : Type 0 where
    pub mid : Thread L F M B
    pub polled_so : polls now t mid polled
    pub stays : Stays t mid
    pub going : mid.stopped ≡ false
    pub reads : Reads readings before now after later
    pub booked_so : u ≡ record mid { load = booked polled.worked (later - now) mid.load }

  -- the same of the thread at a place of a station's list
  pub record ListPolls (at : ℕ) (polled : Polled) (old new : StationEnd L F M B) (before after : C) (now later : ℕ) : Type 0 where
    pub thread : Thread L F M B
    pub polled_thread : Thread L F M B
    pub is_there : IsThere old.list at thread
    pub is_polled : IsPolled polled thread polled_thread before after now later
    pub station : new ≡ record old { list = slice_set old.list at polled_thread }

  -- of a reactor's list
  pub record PollsOne (at : ℕ) (polled : Polled) (old new : WorkerEnd L F M B C) : Type 0 where
    pub polls_list : ListPolls at polled old.station new.station old.clock new.clock old.now new.now
    pub worker : new ≡ record old { station = new.station; clock = new.clock; now = new.now }

  -- and whom the poll started is started
  pub record PollsThread (homes : List ℕ) (at : ℕ) (old new : WorkerEnd L F M B C) : Type 0 where
    pub polled : Polled
    pub mid : WorkerEnd L F M B C
    pub polls_one : PollsOne at polled old mid
    pub started : StationStarts homes polled.started.items mid.station new.station
    pub worker : new ≡ record mid { station = new.station }

-- `ends` is whether a body may end
module _ {L F M B : Type 0} (ends : B → Bool) where
  -- the thread at a place of a station's list has ended, and this is left of it
  pub record ListsEnd (at : ℕ) (left : Left L F B) (old new : StationEnd L F M B) : Type 0 where
    pub thread : Thread L F M B
    pub is_there : IsThere old.list at thread
    pub ended : IsEnded ends thread left
    pub station : new ≡ record old { list = remove old.list at }

  -- its ring, which was tried once, didn't close
  pub record ListsNotYet (at : ℕ) (old new : StationEnd L F M B) : Type 0 where
    pub thread : Thread L F M B
    pub after : Thread L F M B
    pub seen : ℕ
    pub is_there : IsThere old.list at thread
    pub tried : IsNotYet ends thread after (why.Ring seen)
    pub station : new ≡ record old { list = slice_set old.list at after; room = new.room }

module _ {L F M B C : Type 0} (ends : B → Bool) where
  -- The thread at a place of the list has ended: it is among the remains, and one more is retired.
  pub record Ends (at : ℕ) (old new : WorkerEnd L F M B C) : Type 0 where
    pub few : length old.remains < most_threads
    pub left : Left L F B
    pub ended : ListsEnd ends at left old.station new.station
    pub worker : new ≡ record old { station = new.station; remains = old.remains ++ left ∷ []; desk = record old.desk { retired = old.desk.retired + 1 } }

  -- it has not: its ring didn't close
  pub record EndsNot (at : ℕ) (old new : WorkerEnd L F M B C) : Type 0 where
    pub few : length old.remains < most_threads
    pub tried : ListsNotYet ends at old.station new.station
    pub worker : new ≡ record old { station = new.station }

  -- its ring wasn't tried: it may not end, or there are as many remains as a run has threads at most
  pub record TriesNot (at : ℕ) (old new : WorkerEnd L F M B C) : Type 0 where
    pub thread : Thread L F M B
    pub is_there : IsThere old.station.list at thread
    pub cause : (MayEnd ends thread → ⊥) ⊎ (most_threads ≤ length old.remains)
    pub worker : new ≡ old

  -- what came of the end of the thread at a place: whether it has ended
  abbrev pub TriesEnd : ℕ → Bool → WorkerEnd L F M B C → WorkerEnd L F M B C → Type 0
  TriesEnd at true old new = Ends at old new
  TriesEnd at false old new = EndsNot at old new ⊎ TriesNot at old new

  -- there was no room for what is left of it, and it may end: its ring wasn't tried
  pub record LacksRoom (at : ℕ) (why : Stop) (old new : WorkerEnd L F M B C) : Type 0 where
    pub thread : Thread L F M B
    pub is_there : IsThere old.station.list at thread
    pub may : MayEnd ends thread
    pub few : length old.remains < most_threads
    pub cause : why ≡ stop.NoMemory
    pub worker : new ≡ old

-- the place of the next thread, behind one at a place, which has ended or hasn't
abbrev pub next_place : ℕ → Bool → ℕ
next_place at true = at
next_place at false = at + 1

-- the place of the next thread, behind several from a place on
abbrev pub place_behind : ℕ → List Bool → ℕ
place_behind at [] = at
place_behind at (ended ∷ rest) = place_behind (next_place at ended) rest

module _ {L F M B C : Type 0} (readings : C → Option (List ℕ)) (polls : ℕ → Thread L F M B → Thread L F M B → Polled → Type 0) (ends : B → Bool) where
  -- the thread at a place of the list was polled, and its end tried
  pub record PollsNext (homes : List ℕ) (at : ℕ) (ended : Bool) (old new : WorkerEnd L F M B C) : Type 0 where
    pub mid : WorkerEnd L F M B C
    pub polled : PollsThread readings polls homes at old mid
    pub tried : TriesEnd ends at ended mid new

  -- Threads of the list are polled and their ends tried, in order: so many, from a place on. Behind one that has ended the
  -- next one stands at its place.
  abbrev pub PollsFrom : List ℕ → ℕ → List Bool → WorkerEnd L F M B C → WorkerEnd L F M B C → Type 0
  PollsFrom homes at [] old new = new ≡ old
  PollsFrom homes at (ended ∷ rest) old new =
      (mid : WorkerEnd L F M B C) × PollsNext homes at ended old mid × PollsFrom homes (next_place at ended) rest mid new

  -- each thread of the list is polled once
  pub record PollsAll (homes : List ℕ) (old new : WorkerEnd L F M B C) : Type 0 where
    pub ended : List Bool
    pub count : length ended ≡ length old.station.list
    pub polled : PollsFrom homes 0 ended old new

-- `halts` is a poll of a thread that answered a Stop
module _ {L F M B C : Type 0} (readings : C → Option (List ℕ)) (polls : ℕ → Thread L F M B → Thread L F M B → Polled → Type 0) (halts : ℕ → Thread L F M B → Thread L F M B → Cause → Type 0) (ends : B → Bool) where
  -- a poll of a thread stopped the reactor
  pub record IsHalted (why : Stop) (t u : Thread L F M B) (now : ℕ) : Type 0 where
    pub cause : Cause
    pub is_stop : IsStopOf t.seat.thread cause why
    pub halted : halts now t u cause
    pub stays : Stays t u
    pub stopped : u.stopped ≡ true

  -- the thread at a place of a station's list did; it stays there
  pub record ListHalts (at : ℕ) (why : Stop) (old new : StationEnd L F M B) (now : ℕ) : Type 0 where
    pub thread : Thread L F M B
    pub halted_thread : Thread L F M B
    pub is_there : IsThere old.list at thread
    pub is_halted : IsHalted why thread halted_thread now
    pub station : new ≡ record old { list = slice_set old.list at halted_thread }

  -- of a reactor's list; the clock wasn't read
  pub record PollHalts (at : ℕ) (why : Stop) (old new : WorkerEnd L F M B C) : Type 0 where
    pub halts_list : ListHalts at why old.station new.station old.now
    pub worker : new ≡ record old { station = new.station }

  -- an order to start a thread was refused, behind others that were sent
  pub record StartHalts (homes : List ℕ) (at : ℕ) (why : Stop) (old new : WorkerEnd L F M B C) : Type 0 where
    pub polled : Polled
    pub mid : WorkerEnd L F M B C
    pub polls_one : PollsOne readings polls at polled old mid
    pub started : StationStartsSome homes why polled.started.items mid.station new.station
    pub worker : new ≡ record mid { station = new.station }

  -- it was polled, and there was no room for what is left of it
  pub record RoomHalts (homes : List ℕ) (at : ℕ) (why : Stop) (old new : WorkerEnd L F M B C) : Type 0 where
    pub mid : WorkerEnd L F M B C
    pub polled : PollsThread readings polls homes at old mid
    pub lacks : LacksRoom ends at why mid new

  -- a reactor stopped at the thread at a place
  abbrev pub HaltsAt : List ℕ → ℕ → Stop → WorkerEnd L F M B C → WorkerEnd L F M B C → Type 0
  HaltsAt homes at why old new = (PollHalts at why old new ⊎ StartHalts homes at why old new) ⊎ RoomHalts homes at why old new

  -- some threads were polled, and the reactor stopped at the next one
  pub record PollingStops (homes : List ℕ) (why : Stop) (old new : WorkerEnd L F M B C) : Type 0 where
    pub ended : List Bool
    pub at : ℕ
    pub before : WorkerEnd L F M B C
    pub polled : PollsFrom readings polls ends homes 0 ended old before
    pub next : at ≡ place_behind 0 ended
    pub halts_so : HaltsAt homes at why before new
