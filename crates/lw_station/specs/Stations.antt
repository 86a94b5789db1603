-- Where the light threads of a reactor stand, and how they come and go.
use Rattle.std.specs.Prelude.{◌≡◌, ℕ, ◌<◌, List, [], length, All, None, Some, Option, false, slice_index}
use Rattle.lw_base.specs.declared.moves.Hop.{Hop}
use Rattle.lw_place.specs.declared.place.Place.TheVariants as place
use Rattle.lw_thread.specs.Runs.{RunId}
use Rattle.lw_thread.specs.Threads.{Thread, IsThreadOf, last_of}
use Rattle.lw_event.specs.Desks.{Desk}
use Rattle.lw_event.specs.Sleepers.{SleeperEnd}

-- a station: its reactor's number, the threads of the list and how many there is room for, those that are held, the ends of the
-- event rings, and the sleeper
pub record StationEnd (L F M B : Type 0) : Type 0 where
  pub number : ℕ
  pub list : List (Thread L F M B)
  pub room : ℕ
  pub held : List (Thread L F M B)
  pub events : Desk B M L F
  pub sleeper : SleeperEnd

-- a thread with this last hop belongs to a reactor: it hopped there last, or starts there and hopped nowhere
abbrev pub IsHere : ℕ → List ℕ → ℕ → Option Hop → Type 0
IsHere reactor homes thread None = slice_index homes thread ≡ reactor
IsHere reactor homes thread (Some h) = h.reactor ≡ reactor

module _ {L F M B : Type 0} (run : RunId F) (reactor : ℕ) where
  -- a thread of the run stands in the reactor's list
  pub record Stands (t : Thread L F M B) : Type 0 where
    pub of_run : IsThreadOf run t
    pub place : t.seat.place ≡ place.List reactor

  -- the reactor holds a thread of the run, which is at home, has hopped nowhere and may be polled once it is started
  pub record Holds (homes : List ℕ) (t : Thread L F M B) : Type 0 where
    pub of_run : IsThreadOf run t
    pub place : t.seat.place ≡ place.Held reactor
    pub home : slice_index homes t.seat.thread ≡ reactor
    pub no_hop : t.trail ≡ []
    pub going : t.stopped ≡ false

-- a thread of the list may be polled, and has come to the reactor by its last hop
pub record MayGo {L F M B : Type 0} (reactor : ℕ) (homes : List ℕ) (t : Thread L F M B) : Type 0 where
  pub going : t.stopped ≡ false
  pub here : IsHere reactor homes t.seat.thread (last_of t.trail)

module _ {L F M B : Type 0} where
  -- the station is one of a run's reactor: its ends are the run's, and each thread stands where it is
  pub record IsStationOf (run : RunId F) (homes : List ℕ) (s : StationEnd L F M B) : Type 0 where
    pub family : s.events.recv.family ≡ Some run
    pub events_number : s.events.number ≡ s.number
    pub reactors : length s.events.ends ≡ run.places.reactors
    pub own : s.number < run.places.reactors
    pub wakers : length s.sleeper.wakers ≡ run.places.reactors
    pub list : All (Stands run s.number) s.list
    pub held : All (Holds run s.number homes) s.held

  -- each thread of the list may be polled
  abbrev pub MayAllGo : List ℕ → StationEnd L F M B → Type 0
  MayAllGo homes s = All (MayGo s.number homes) s.list
