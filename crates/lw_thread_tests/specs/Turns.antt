-- When a light thread may be polled, and tried to end.
use Rattle.std.specs.Prelude.{◌≡◌, false}
use Rattle.lw_place.specs.PlaceSeats.{IsList}
use Rattle.lw_thread.specs.Threads.{Thread}

-- it stands in a reactor's list, and no poll of it has answered Stop
pub record GoesOn {L F M B : Type 0} (t : Thread L F M B) : Type 0 where
  pub listed : IsList t.seat.place
  pub going : t.stopped ≡ false
