-- What a result's value meets, from what is said of the result.
use Rattle.std.proofs.Common.{ℕ, true, false}
use Rattle.std.specs.Prelude.{IfErr, IfOk, OnOk, Result, Ok, Err}
use Rattle.lw_station.specs.declared.stop.Stop.{Stop}
use Rattle.lw_station.specs.declared.stop.Stop.TheVariants as stop
use Rattle.lw_station.specs.Stations.{StationEnd}
use Rattle.lw_station.specs.Stopping.{DeskStops, RefusesTo}
use Rattle.lw_station.proofs.Refusals.{refuses_stops}
use Rattle.lw_reactor.specs.Stopping.{IsShown}

pub ok_both : {T E : Type 0} (r : Result T E) (P : T → Type 0) (Q : Type 0) (R : T → Type 0) → IfOk r P → OnOk r Q → ((x : T) → P x → Q → R x) → IfOk r R
ok_both (Ok x) P Q R p q f = f x p q
ok_both (Err e) P Q R p q f = tt

pub ok_then : {T E : Type 0} (r : Result T E) (P R : T → Type 0) → IfOk r P → ((x : T) → P x → R x) → IfOk r R
ok_then (Ok x) P R p f = f x p
ok_then (Err e) P R p f = tt

pub on_ok_then : {T E : Type 0} (r : Result T E) (P R : Type 0) → OnOk r P → (P → R) → OnOk r R
on_ok_then (Ok x) P R p f = f p
on_ok_then (Err e) P R p f = tt

pub err_then : {T E : Type 0} (r : Result T E) (P R : E → Type 0) → IfErr r P → ((e : E) → P e → R e) → IfErr r R
err_then (Ok x) P R p f = tt
err_then (Err e) P R p f = f e p

module _ {L F M B : Type 0} where
  -- whatever an end of the desk shows is shown
  pub desk_shown : (s : StationEnd L F M B) (why : Stop) → DeskStops s.events why → IsShown s why
  desk_shown s stop.NoMemory h = tt
  desk_shown s (stop.Spent true from to count) h = h
  desk_shown s (stop.Spent false from to count) h = absurd h

  pub refusal_shown : (to : ℕ) (s : StationEnd L F M B) (why : Stop) → RefusesTo to s.events why → IsShown s why
  refusal_shown to s why h = desk_shown s why (refuses_stops to s.events why h)
