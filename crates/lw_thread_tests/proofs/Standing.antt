-- A thread whose seat stands in a reactor's list goes on.
use Rattle.std.proofs.Common.{◌≡◌, ◌≢◌, ℕ, false, ap, sym, ◌∙◌}
use Rattle.std.specs.Prelude.{IfOk}
use Rattle.std.specs.declared.result.Result.{Result}
use Rattle.std.specs.declared.result.Result.TheVariants.{Ok, Err}
use Rattle.lw_place.specs.declared.place.Place.{Place}
use Rattle.lw_place.specs.declared.place.Place.TheVariants as place
use Rattle.lw_place.specs.declared.place.Start.{Start}
use Rattle.lw_place.specs.declared.place.Start.TheVariants as start
use Rattle.lw_place.specs.PlaceWord.{start_place}
use Rattle.lw_place.specs.PlaceSeats.{ThreadEnd}
use Rattle.lw_thread.specs.Threads.{Thread}
use Rattle.lw_thread_tests.specs.Turns.{GoesOn}

module _ {L F M B : Type 0} where
  pub seated_goes_on : (t : Thread L F M B) (s : ThreadEnd) (reactor : ℕ) → t.seat ≡ s → s.place ≡ place.List reactor → t.stopped ≡ false → GoesOn t
  seated_goes_on t s reactor seat at going = record {
    listed = (reactor, ap (λ (x : ThreadEnd). x.place) seat ∙ at);
    going = going;
  }

  -- so does a new one
  pub new_goes_on : {E : Type 0} (r : Result (Thread L F M B) E) (u : Thread L F M B) (reactor : ℕ) → u.seat.place ≡ place.List reactor → u.stopped ≡ false → IfOk r (λ t. t ≡ u) → IfOk r (λ t. GoesOn t)
  new_goes_on (Ok t) u reactor at going is = seated_goes_on t u.seat reactor (ap (λ (x : Thread L F M B). x.seat) is) at (ap (λ (x : Thread L F M B). x.stopped) is ∙ going)
  new_goes_on (Err e) u reactor at going is = tt

-- however a thread starts, it hasn't ended
pub not_ended : (s : Start) (p : Place) → p ≡ start_place s → p ≢ place.Ended
not_ended (start.List reactor) p is ended = cc (sym is ∙ ended)
not_ended (start.Held reactor) p is ended = cc (sym is ∙ ended)
