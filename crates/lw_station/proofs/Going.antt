-- How a thread is found, starts, and leaves, step by step.
use Rattle.std.proofs.Common.{◌≡◌, ◌≢◌, ◌<◌, ℕ, zero, suc, List, [], ◌∷◌, ◌++◌, length, Option, Some, refl, sym, ap, subst, ◌∙◌}
use Rattle.std.specs.Prelude.{◌⊎◌, remove, slice_index_or}
use Rattle.lw_base.specs.Letters.{FitsRing}
use Rattle.lw_base.specs.declared.moves.Hop.{Hop}
use Rattle.lw_place.specs.PlaceSeats.{MayLeave}
use Rattle.lw_place.specs.declared.place.Place.{Place}
use Rattle.lw_place.specs.declared.place.Place.TheVariants as place
use Rattle.lw_thread.specs.Runs.{RunId}
use Rattle.lw_thread.specs.Threads.{Thread, IsAbove, last_of}
use Rattle.lw_event.specs.Calls.{IsRefused}
use Rattle.lw_event.specs.Events.{event_fits}
use Rattle.lw_event.specs.Desks.{Desk}
use Rattle.lw_event.specs.Sleepers.{SleeperEnd}
use Rattle.lw_event.specs.declared.event.Event.{Event}
use Rattle.lw_event.specs.declared.event.Event.TheVariants.{Arrive}
use Rattle.lw_event.specs.declared.refusal.EventRefusal.{EventRefusal}
use Rattle.lw_station.specs.declared.stop.Stop.{Stop}
use Rattle.lw_station.specs.Posting.{Posts, StopOf}
use Rattle.lw_station.specs.Stopping.{RefusesTo}
use Rattle.lw_station.specs.Stations.{StationEnd, IsStationOf, MayAllGo, MayGo, Stands, Holds}
use Rattle.lw_station.specs.Handling.{Departs, DepartsNot, Starts, Obeys, IsPast, IsAt, IsArrival, IsArrivalOf, at_place, departure}
use Rattle.lw_station.proofs.Movers.{at_place_all, of_run_at, back_again}
use Rattle.lw_station.proofs.Refusals.{stop_refuses, back_of, comes_back}

module _ {L F M B : Type 0} where
  -- a thread found among those of a list, by the list's slice
  pub found_in : (ts us : List (Thread L F M B)) (number at : ℕ) (t : Thread L F M B) → ts ≡ us → IsAt ts number at t → IsAt us number at t
  found_in ts us number at t e i = subst (λ (xs : List (Thread L F M B)). IsAt xs number at t) e i

  -- what was taken out is the thread that stood there
  pub taken_out : (ts us : List (Thread L F M B)) (number at : ℕ) (t r : Thread L F M B) → ts ≡ us → IsAt us number at t → r ≡ slice_index_or ts at r → r ≡ t
  taken_out ts us number at t r same i e = e ∙ ap (λ (xs : List (Thread L F M B)). slice_index_or xs at r) same ∙ i.there r

  -- two that stand at one place are one
  pub one_there : (ts : List (Thread L F M B)) (number other at : ℕ) (t u : Thread L F M B) → IsAt ts number at t → IsAt ts other at u → t ≡ u
  one_there ts number other at t u i j = sym (i.there t) ∙ j.there t

  -- where a thread stands is no matter of its hops
  pub still_above : (round : ℕ) (p : Place) (t u : Thread L F M B) → u ≡ at_place p t → IsAbove round (last_of t.trail) → IsAbove round (last_of u.trail)
  still_above round p t u e a = subst (λ (x : Thread L F M B). IsAbove round (last_of x.trail)) (sym e) a

  pub above_same : (round : ℕ) (t u : Thread L F M B) → t ≡ u → IsAbove round (last_of t.trail) → IsAbove round (last_of u.trail)
  above_same round t u e a = subst (λ (x : Thread L F M B). IsAbove round (last_of x.trail)) e a

  -- a round is above its last hop, or isn't
  pub above_there : (round : ℕ) (t r : Thread L F M B) (hop : Option Hop) → r ≡ t → hop ≡ last_of r.trail → IsAbove round hop → IsAbove round (last_of t.trail)
  above_there round t r hop same e a = subst (IsAbove round) (e ∙ ap (λ (x : Thread L F M B). last_of x.trail) same) a

  pub above_here : (round : ℕ) (t r : Thread L F M B) (hop : Option Hop) → r ≡ t → hop ≡ last_of r.trail → IsAbove round (last_of t.trail) → IsAbove round hop
  above_here round t r hop same e a = subst (IsAbove round) (sym (e ∙ ap (λ (x : Thread L F M B). last_of x.trail) same)) a

  -- one that was held is at its place
  pub held_place : (run : RunId F) (homes : List ℕ) (s : StationEnd L F M B) (number at : ℕ) (t r : Thread L F M B) → IsStationOf run homes s → IsAt s.held number at t → r ≡ t → r.seat.place ≡ place.Held s.number
  held_place run homes s number at t r k i e = ap (λ (x : Thread L F M B). x.seat.place) e ∙ (at_place_all (Holds run s.number homes) s.held number at t i k.held).place

  -- it starts
  pub starts_is : (number at : ℕ) (v s : StationEnd L F M B) (t r u : Thread L F M B) (held list : List (Thread L F M B)) (room : ℕ)
      → v ≡ s → IsAt v.held number at t → r ≡ t → held ≡ remove v.held at → u ≡ at_place (place.List v.number) r → list ≡ v.list ++ u ∷ [] → room ≡ v.room
      → Starts number s (record v { held = held; list = list; room = room })
  starts_is number at v s t r u held list room is i e out started put same =
      let put2 : list ≡ v.list ++ at_place (place.List v.number) t ∷ [] = put ∙ ap (λ (x : Thread L F M B). v.list ++ x ∷ []) (started ∙ ap (at_place (place.List v.number)) e) in
      let station : record v { held = held; list = list; room = room } ≡ record v { held = remove v.held at; list = v.list ++ at_place (place.List v.number) t ∷ [] }
      = λ k. record v { held = out k; list = put2 k; room = same k } in
      subst (λ (x : StationEnd L F M B). Starts number x (record v { held = held; list = list; room = room })) is
      (record { at = at; thread = t; is_at = i; station = station })

  -- an order is obeyed in the round of another number than 0
  pub obeyed_away : (round number to : ℕ) (s n : StationEnd L F M B) → round ≢ 0 → Departs round number to s n ⊎ (IsPast round number s × (n ≡ s)) → Obeys round number to s n
  obeyed_away zero number to s n other h = absurd (other refl)
  obeyed_away (suc round) number to s n other h = h

  -- it left as it was
  pub leaves_as : (ts us : List (Thread L F M B)) (round number at to : ℕ) (t r u : Thread L F M B) (event : Event B M L F) → ts ≡ us → IsAt us number at t → r ≡ slice_index_or ts at r → u ≡ at_place (place.Event to) r → event ≡ Arrive 0 0 round u.seat.thread u → event ≡ departure round to t
  leaves_as ts us round number at to t r u event same i e left made =
      made ∙ ap (λ (x : Thread L F M B). Arrive 0 0 round x.seat.thread x) (left ∙ ap (at_place (place.Event to)) (taken_out ts us number at t r same i e))

  -- a thread of the list may leave for a reactor of its run
  pub may_leave : (run : RunId F) (homes : List ℕ) (s : StationEnd L F M B) (ts : List (Thread L F M B)) (number at : ℕ) (t r : Thread L F M B) → IsStationOf run homes s → ts ≡ s.list → IsAt s.list number at t → r ≡ slice_index_or ts at r → MayLeave r.seat.place
  may_leave run homes s ts number at t r k same i e =
      let is = taken_out ts s.list number at t r same i e in
      let stands = at_place_all (Stands run s.number) s.list number at t i k.list in
      subst MayLeave (sym (ap (λ (x : Thread L F M B). x.seat.place) is ∙ stands.place)) tt

  pub leave_range : (run : RunId F) (homes : List ℕ) (s : StationEnd L F M B) (ts : List (Thread L F M B)) (number at to : ℕ) (t r : Thread L F M B) → IsStationOf run homes s → ts ≡ s.list → IsAt s.list number at t → r ≡ slice_index_or ts at r → to < length s.events.ends → to < r.seat.places.reactors
  leave_range run homes s ts number at to t r k same i e range =
      let is = taken_out ts s.list number at t r same i e in
      let stands = at_place_all (Stands run s.number) s.list number at t i k.list in
      let places : run.places.reactors ≡ r.seat.places.reactors = sym (ap (λ (x : Thread L F M B). x.seat.places.reactors) is ∙ ap (λ p. p.reactors) (stands.of_run).places) in
      subst (λ n. to < n) (k.reactors ∙ places) range

  -- its event fits the ring of the reactor for which it leaves
  pub leaver_fits : (run : RunId F) (homes : List ℕ) (round number at to : ℕ) (v s : StationEnd L F M B) (t : Thread L F M B) (event : Event B M L F)
      → v ≡ record s { list = remove s.list at } → IsStationOf run homes s → MayAllGo homes s → IsAt s.list number at t → IsAbove round (last_of t.trail) → event ≡ departure round to t
      → FitsRing event_fits to v.events.recv.family event
  leaver_fits run homes round number at to v s t event is k go i above made =
      let stands = at_place_all (Stands run s.number) s.list number at t i k.list in
      let goes = at_place_all (MayGo s.number homes) s.list number at t i go in
      let fits : event_fits to run (departure round to t)
      = (refl, record { of_run = of_run_at run (place.Event to) t stands.of_run; on_its_way = refl; round_above = above; going = goes.going }) in
      let family : v.events.recv.family ≡ Some run = ap (λ (x : StationEnd L F M B). x.events.recv.family) is ∙ k.family in
      subst (λ (o : Option (RunId F)). FitsRing event_fits to o event) (sym family) (subst (event_fits to run) (sym made) fits)

  -- it was sent away
  pub departs_is : (round number at to : ℕ) (v s : StationEnd L F M B) (t : Thread L F M B) (event : Event B M L F) (events : Desk B M L F) (sleeper : SleeperEnd)
      → v ≡ record s { list = remove s.list at } → IsAt s.list number at t → IsAbove round (last_of t.trail) → event ≡ departure round to t → Posts to event v.events events v.sleeper sleeper
      → Departs round number to s (record v { events = events; sleeper = sleeper })
  departs_is round number at to v s t event events sleeper is i above made posted = record {
    at = at;
    thread = t;
    is_at = i;
    above = above;
    posted = subst (λ (x : Event B M L F). Posts to x s.events events s.sleeper sleeper) made (subst (λ (x : StationEnd L F M B). Posts to event x.events events x.sleeper sleeper) is posted);
    station = λ k. record (is k) { events = events; sleeper = sleeper };
  }

  -- whoever comes back is the one that left
  pub comes_home : (round to : ℕ) (t : Thread L F M B) (event : Event B M L F) (d : Desk B M L F) (r : EventRefusal B M L F) → event ≡ departure round to t → IsRefused to event d r → IsArrival r (at_place (place.Event to) t)
  comes_home round to t event d r made refused = comes_back to event d r (at_place (place.Event to) t) refused (subst (λ (x : Event B M L F). IsArrivalOf x (at_place (place.Event to) t)) (sym made) refl)

  pub back_is : (round to : ℕ) (t b : Thread L F M B) (event : Event B M L F) (d : Desk B M L F) (r : EventRefusal B M L F) → event ≡ departure round to t → IsRefused to event d r → IsArrival r b → b ≡ at_place (place.Event to) t
  back_is round to t b event d r made refused back = sym (subst (λ (x : Event B M L F). IsArrivalOf x b) made (back_of to event d r b refused back))

  pub back_leaves : (to : ℕ) (t b : Thread L F M B) → b ≡ at_place (place.Event to) t → MayLeave b.seat.place
  back_leaves to t b e = subst (λ (x : Thread L F M B). MayLeave x.seat.place) (sym e) tt

  pub back_range : (run : RunId F) (homes : List ℕ) (number at to : ℕ) (v s : StationEnd L F M B) (t b : Thread L F M B) → v ≡ record s { list = remove s.list at } → IsStationOf run homes s → IsAt s.list number at t → b ≡ at_place (place.Event to) t → v.number < b.seat.places.reactors
  back_range run homes number at to v s t b is k i e =
      let stands = at_place_all (Stands run s.number) s.list number at t i k.list in
      let places : run.places.reactors ≡ b.seat.places.reactors = sym (ap (λ (x : Thread L F M B). x.seat.places.reactors) e ∙ ap (λ p. p.reactors) (stands.of_run).places) in
      subst (λ n. n < b.seat.places.reactors) (sym (ap (λ (x : StationEnd L F M B). x.number) is)) (subst (λ n. s.number < n) places k.own)

  -- its event was refused, and it is back
  pub departs_not_is : (run : RunId F) (homes : List ℕ) (round number at to : ℕ) (why : Stop) (v s : StationEnd L F M B) (t b c d : Thread L F M B) (event : Event B M L F) (r : EventRefusal B M L F) (list : List (Thread L F M B)) (room : ℕ) (events : Desk B M L F) (sleeper : SleeperEnd)
      → v ≡ record s { list = remove s.list at } → IsStationOf run homes s → IsAt s.list number at t → IsAbove round (last_of t.trail) → to < length s.events.ends
      → IsRefused to event v.events r × (events ≡ v.events) × (sleeper ≡ v.sleeper) → StopOf v.number to r why
      → b ≡ at_place (place.Event to) t → c ≡ at_place (place.Event v.number) b → d ≡ at_place (place.List v.number) c
      → list ≡ v.list ++ d ∷ [] → room ≡ v.room
      → DepartsNot round number to why s (record v { list = list; room = room; events = events; sleeper = sleeper })
  departs_not_is run homes round number at to why v s t b c d event r list room events sleeper is k i above range refused stops back again listed put same =
      let stands = at_place_all (Stands run s.number) s.list number at t i k.list in
      let number_is : v.number ≡ s.number = ap (λ (x : StationEnd L F M B). x.number) is in
      let events_is : v.events ≡ s.events = ap (λ (x : StationEnd L F M B). x.events) is in
      let whole : d ≡ t = listed ∙ ap (at_place (place.List v.number)) (again ∙ ap (at_place (place.Event v.number)) back) ∙ ap (λ n. at_place (place.List n) t) number_is ∙ back_again run s.number t stands in
      let own : v.number ≡ v.events.number = number_is ∙ sym k.events_number ∙ sym (ap (λ (x : Desk B M L F). x.number) events_is) in
      let here : to < length v.events.ends = subst (λ (x : Desk B M L F). to < length x.ends) (sym events_is) range in
      let first : record v { list = list; room = room; events = events; sleeper = sleeper } ≡ record v { list = v.list ++ d ∷ [] }
      = λ j. record v { list = put j; room = same j; events = refused.1 j; sleeper = refused.2 j } in
      record {
        at = at;
        thread = t;
        is_at = i;
        above = above;
        refused = subst (λ (x : Desk B M L F). RefusesTo to x why) events_is (stop_refuses v.number to event v.events r why own here refused.0 stops);
        station = first ∙ ap (λ (x : StationEnd L F M B). record x { list = x.list ++ d ∷ [] }) is ∙ ap (λ (x : Thread L F M B). record s { list = remove s.list at ++ x ∷ [] }) whole;
      }
