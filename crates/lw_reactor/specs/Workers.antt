-- What a reactor works with: its light threads, what is left of those that ended there, its seat of the places, and its clock.
use Rattle.std.specs.Prelude.{◌≡◌, ℕ, ◌+◌, ◌<◌, ◌≤◌, max, List, length, map, All, Option}
use Rattle.lw_base.specs.Outside.{Continues}
use Rattle.lw_place.specs.declared.place.Place.TheVariants as place
use Rattle.lw_place.specs.PlaceWord.{most_threads}
use Rattle.lw_place.specs.PlaceSeats.{DeskEnd}
use Rattle.lw_thread.specs.Runs.{RunId, IsOf}
use Rattle.lw_thread.specs.Rest.{Left}
use Rattle.lw_thread.specs.Threads.{last_of}
use Rattle.lw_event.specs.Desks.{Desk}
use Rattle.lw_event.specs.Sleepers.{SleeperEnd, once_more}
use Rattle.lw_station.specs.Stations.{StationEnd, IsHere, IsStationOf}

-- a reactor's station, what is left of the threads that ended in its list, in the order in which they ended, its seat of the
-- places, its clock, and the greatest reading so far
pub record WorkerEnd (L F M B C : Type 0) : Type 0 where
  pub station : StationEnd L F M B
  pub remains : List (Left L F B)
  pub desk : DeskEnd
  pub clock : C
  pub now : ℕ

-- a thread of the run ended in the reactor's list: by its last hop it had come to there, or it was at home and had hopped nowhere
pub record HasEnded {L F B : Type 0} (run : RunId F) (reactor : ℕ) (homes : List ℕ) (r : Left L F B) : Type 0 where
  pub of_run : IsOf run r.seat r.recv r.ends r.load
  pub place : r.seat.place ≡ place.Ended
  pub here : IsHere reactor homes r.seat.thread (last_of r.trail)

-- the homes of a run's threads, by their numbers: each is one of the run's reactors
pub record AreHomes {F : Type 0} (run : RunId F) (homes : List ℕ) : Type 0 where
  pub threads : length homes ≡ run.places.threads
  pub rings : length run.rings ≡ run.places.threads
  pub below : All (λ h. h < run.places.reactors) homes

-- All that the worker has is of the run, each thread of its list stands in that list, and it has retired as many threads as it has
-- remains.
pub record IsWorkerOf {L F M B C : Type 0} (run : RunId F) (homes : List ℕ) (w : WorkerEnd L F M B C) : Type 0 where
  pub station : IsStationOf run homes w.station
  pub desk : w.desk.places ≡ run.places
  pub retired : w.desk.retired ≡ length w.remains
  pub few : length w.remains ≤ most_threads
  pub remains : All (HasEnded run w.station.number homes) w.remains

-- one reading of a clock: one below the greatest before counts as that one
pub record Reads {C : Type 0} (readings : C → Option (List ℕ)) (before : C) (now : ℕ) (after : C) (later : ℕ) : Type 0 where
  pub reading : ℕ
  pub continues : Continues (readings before) reading (readings after)
  pub greatest : later ≡ max now reading

module _ {L F M B C : Type 0} where
  -- the worker's clock was read, and nothing else was done
  pub record ReadsOnce (readings : C → Option (List ℕ)) (old new : WorkerEnd L F M B C) : Type 0 where
    pub reads : Reads readings old.clock old.now new.clock new.now
    pub worker : new ≡ record old { clock = new.clock; now = new.now }

  -- the worker once events were sent, and reactors woken
  abbrev pub with_sent : Desk B M L F → SleeperEnd → WorkerEnd L F M B C → WorkerEnd L F M B C
  with_sent events sleeper w = record w { station = record w.station { events = events; sleeper = sleeper } }

  -- the worker once all reactors were woken
  abbrev pub all_woken : WorkerEnd L F M B C → WorkerEnd L F M B C
  all_woken w = record w { station = record w.station { sleeper = record w.station.sleeper { wakers = map once_more w.station.sleeper.wakers } } }

  -- the worker once it has slept once more
  abbrev pub slept : WorkerEnd L F M B C → WorkerEnd L F M B C
  slept w = record w { station = record w.station { sleeper = record w.station.sleeper { slept = w.station.sleeper.slept + 1 } } }
