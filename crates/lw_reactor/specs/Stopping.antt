-- What shows a reactor's Stop.
use Rattle.std.specs.Prelude.{true, false, Any}
use Rattle.lw_thread.specs.Threads.{Thread}
use Rattle.lw_station.specs.declared.stop.Stop.{Stop}
use Rattle.lw_station.specs.declared.stop.Stop.TheVariants as stop
use Rattle.lw_station.specs.Stations.{StationEnd}
use Rattle.lw_station.specs.Stopping.{DeskIsSpent, ThreadIsSpent}

module _ {L F M B : Type 0} where
  -- a poll of this thread stopped the reactor: want of memory shows nothing, else the end that the Stop names is the thread's
  abbrev pub ThreadStops : Thread L F M B → Stop → Type 0
  ThreadStops t stop.NoMemory = Unit {0}
  ThreadStops t (stop.Spent true from to count) = ⊥
  ThreadStops t (stop.Spent false from to count) = ThreadIsSpent from to count t

  -- a Stop of the reactor: want of memory shows nothing, else the end that it names is the reactor's, or that of a thread of its list
  abbrev pub IsShown : StationEnd L F M B → Stop → Type 0
  IsShown s stop.NoMemory = Unit {0}
  IsShown s (stop.Spent true from to count) = DeskIsSpent s.events from to count
  IsShown s (stop.Spent false from to count) = Any (ThreadIsSpent from to count) s.list
