-- The events of a turn, as the worker handles them.
use Rattle.std.proofs.Common.{◌≡◌, ℕ, [], length, refl, subst}
use Rattle.lw_station.specs.Stations.{StationEnd}
use Rattle.lw_station.specs.Handling.{HandlesAll}
use Rattle.lw_reactor.specs.Workers.{WorkerEnd}
use Rattle.lw_reactor.specs.Turns.{HandlesEvents}

module _ {L F M B C : Type 0} where
  pub handles_is : (v w : WorkerEnd L F M B C) (s : StationEnd L F M B) (n : ℕ) (h : HandlesAll v.station s) → n ≡ length h.batch → s.events.batch ≡ [] → v ≡ w → HandlesEvents n w (record v { station = s })
  handles_is v w s n h count none is = subst (λ (x : WorkerEnd L F M B C). HandlesEvents n x (record v { station = s })) is (record { handled = h; counted = count; none_left = none; worker = refl })
