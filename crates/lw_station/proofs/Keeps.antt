-- What the handling of events keeps: the station stays one of its run, and each thread of its list may be polled.
use Rattle.std.proofs.Common.{ℕ, zero, suc, List, [], ◌∷◌, ◌++◌, length, All, Option, sym, ap, subst, ◌∙◌, ⊎_elim, length-set}
use Rattle.std.specs.Prelude.{remove}
use Rattle.std.proofs.lemmas.List.Elements.{All-push}
use Rattle.lw_base.specs.Letters.{FitsRing}
use Rattle.lw_place.specs.declared.place.Place.TheVariants as place
use Rattle.lw_thread.specs.Runs.{RunId}
use Rattle.lw_thread.specs.Threads.{Thread}
use Rattle.lw_event.specs.Events.{event_fits}
use Rattle.lw_event.specs.Desks.{Desk}
use Rattle.lw_event.specs.Sleepers.{SleeperEnd}
use Rattle.lw_event.specs.declared.event.Event.{Event}
use Rattle.lw_event.specs.declared.event.Event.TheVariants.{Arrive, Order}
use Rattle.lw_station.specs.declared.stop.Stop.{Stop}
use Rattle.lw_station.specs.Stations.{StationEnd, IsStationOf, MayAllGo, MayGo, Stands, Holds}
use Rattle.lw_station.specs.Handling.{Departs, DepartsNot, Starts, Obeys, ObeysNot, Handles, HandlesNot, HandlesNext, StopsNext, HandlesEach, Takes, with_batch, arrived, at_place}
use Rattle.lw_station.proofs.Movers.{All-remove, at_place_all, listed_stands, arrived_stands, arrived_goes, started_goes}

module _ {L F M B : Type 0} (run : RunId F) (homes : List ℕ) where
  -- with another list
  kept_list : (s : StationEnd L F M B) (ts : List (Thread L F M B)) → IsStationOf run homes s → All (Stands run s.number) ts → IsStationOf run homes (record s { list = ts })
  kept_list s ts k all = record { family = k.family; events_number = k.events_number; reactors = k.reactors; own = k.own; wakers = k.wakers; list = all; held = k.held }

  pub batch_kept : (rest : List (Event B M L F)) (s : StationEnd L F M B) → IsStationOf run homes s → IsStationOf run homes (with_batch rest s)
  batch_kept rest s k = record { family = k.family; events_number = k.events_number; reactors = k.reactors; own = k.own; wakers = k.wakers; list = k.list; held = k.held }

  pub takes_kept : (batch : List (Event B M L F)) (s m : StationEnd L F M B) → Takes batch s m → IsStationOf run homes s → IsStationOf run homes m
  takes_kept batch s m t k = subst (IsStationOf run homes) (sym t.taken) (record { family = k.family; events_number = k.events_number; reactors = k.reactors; own = k.own; wakers = k.wakers; list = k.list; held = k.held })

  pub takes_goes : (batch : List (Event B M L F)) (s m : StationEnd L F M B) → Takes batch s m → MayAllGo homes s → MayAllGo homes m
  takes_goes batch s m t go = subst (MayAllGo homes) (sym t.taken) go

  -- what fits the ring of the run fits in the run
  pub fits_run : (s : StationEnd L F M B) (e : Event B M L F) → IsStationOf run homes s → FitsRing event_fits s.number s.events.recv.family e → event_fits s.number run e
  fits_run s e k f = subst (λ (o : Option (RunId F)). FitsRing event_fits s.number o e) k.family f

  starts_kept : (number : ℕ) (s n : StationEnd L F M B) → Starts number s n → IsStationOf run homes s → IsStationOf run homes n
  starts_kept number s n h k =
      let held = at_place_all (Holds run s.number homes) s.held number h.at h.thread h.is_at k.held in
      subst (IsStationOf run homes) (sym h.station) (record {
        family = k.family;
        events_number = k.events_number;
        reactors = k.reactors;
        own = k.own;
        wakers = k.wakers;
        list = All-push (Stands run s.number) s.list (at_place (place.List s.number) h.thread) k.list (listed_stands run s.number h.thread held.of_run);
        held = All-remove (Holds run s.number homes) s.held h.at k.held;
      })

  starts_goes : (number : ℕ) (s n : StationEnd L F M B) → Starts number s n → IsStationOf run homes s → MayAllGo homes s → MayAllGo homes n
  starts_goes number s n h k go =
      let held = at_place_all (Holds run s.number homes) s.held number h.at h.thread h.is_at k.held in
      subst (MayAllGo homes) (sym h.station) (All-push (MayGo s.number homes) s.list (at_place (place.List s.number) h.thread) go (started_goes run s.number homes h.thread held))

  departs_kept : (round number to : ℕ) (s n : StationEnd L F M B) → Departs round number to s n → IsStationOf run homes s → IsStationOf run homes n
  departs_kept round number to s n h k =
      let sent = h.posted.sent.sent in
      let woken = h.posted.woken (record { parker = s.sleeper.parker; woke = 0 }) in
      subst (IsStationOf run homes) (sym h.station) (record {
        family = ap (λ (d : Desk B M L F). d.recv.family) sent ∙ k.family;
        events_number = ap (λ (d : Desk B M L F). d.number) sent ∙ k.events_number;
        reactors = ap (λ (d : Desk B M L F). length d.ends) sent ∙ length-set s.events.ends to _ ∙ k.reactors;
        own = k.own;
        wakers = ap (λ (z : SleeperEnd). length z.wakers) woken ∙ length-set s.sleeper.wakers to _ ∙ k.wakers;
        list = All-remove (Stands run s.number) s.list h.at k.list;
        held = k.held;
      })

  departs_goes : (round number to : ℕ) (s n : StationEnd L F M B) → Departs round number to s n → MayAllGo homes s → MayAllGo homes n
  departs_goes round number to s n h go = subst (MayAllGo homes) (sym h.station) (All-remove (MayGo s.number homes) s.list h.at go)

  departs_not_kept : (round number to : ℕ) (why : Stop) (s n : StationEnd L F M B) → DepartsNot round number to why s n → IsStationOf run homes s → IsStationOf run homes n
  departs_not_kept round number to why s n h k =
      let stands = at_place_all (Stands run s.number) s.list number h.at h.thread h.is_at k.list in
      subst (IsStationOf run homes) (sym h.station)
      (kept_list s (remove s.list h.at ++ h.thread ∷ []) k (All-push (Stands run s.number) (remove s.list h.at) h.thread (All-remove (Stands run s.number) s.list h.at k.list) stands))

  obeys_kept : (round number to : ℕ) (s n : StationEnd L F M B) → Obeys round number to s n → IsStationOf run homes s → IsStationOf run homes n
  obeys_kept zero number to s n h k = ⊎_elim (λ a. starts_kept number s n a k) (λ b. subst (IsStationOf run homes) (sym b.1) k) h
  obeys_kept (suc round) number to s n h k = ⊎_elim (λ a. departs_kept (suc round) number to s n a k) (λ b. subst (IsStationOf run homes) (sym b.1) k) h

  obeys_goes : (round number to : ℕ) (s n : StationEnd L F M B) → Obeys round number to s n → IsStationOf run homes s → MayAllGo homes s → MayAllGo homes n
  obeys_goes zero number to s n h k go = ⊎_elim (λ a. starts_goes number s n a k go) (λ b. subst (MayAllGo homes) (sym b.1) go) h
  obeys_goes (suc round) number to s n h k go = ⊎_elim (λ a. departs_goes (suc round) number to s n a go) (λ b. subst (MayAllGo homes) (sym b.1) go) h

  obeys_not_kept : (round number to : ℕ) (why : Stop) (s n : StationEnd L F M B) → ObeysNot round number to why s n → IsStationOf run homes s → IsStationOf run homes n
  obeys_not_kept zero number to why s n h k = absurd h
  obeys_not_kept (suc round) number to why s n h k = departs_not_kept (suc round) number to why s n h k

  handles_kept : (e : Event B M L F) (s n : StationEnd L F M B) → event_fits s.number run e → Handles e s n → IsStationOf run homes s → IsStationOf run homes n
  handles_kept (Arrive sender number round id t) s n f h k = subst (IsStationOf run homes) (sym h)
      (kept_list s (s.list ++ arrived s.number round t ∷ []) k (All-push (Stands run s.number) s.list (arrived s.number round t) k.list (arrived_stands run s.number round t f.1)))
  handles_kept (Order sender number round t to) s n f h k = obeys_kept round t to s n h k

  handles_goes : (e : Event B M L F) (s n : StationEnd L F M B) → event_fits s.number run e → Handles e s n → IsStationOf run homes s → MayAllGo homes s → MayAllGo homes n
  handles_goes (Arrive sender number round id t) s n f h k go = subst (MayAllGo homes) (sym h) (All-push (MayGo s.number homes) s.list (arrived s.number round t) go (arrived_goes run s.number homes round t f.1))
  handles_goes (Order sender number round t to) s n f h k go = obeys_goes round t to s n h k go

  handles_not_kept : (e : Event B M L F) (why : Stop) (s n : StationEnd L F M B) → event_fits s.number run e → HandlesNot e why s n → IsStationOf run homes s → IsStationOf run homes n
  handles_not_kept (Arrive sender number round id t) why s n f h k = subst (IsStationOf run homes) (sym h.1)
      (kept_list s (s.list ++ at_place (place.List s.number) t ∷ []) k (All-push (Stands run s.number) s.list (at_place (place.List s.number) t) k.list (listed_stands run s.number t (f.1).of_run)))
  handles_not_kept (Order sender number round t to) why s n f h k = obeys_not_kept round t to why s n h k

  pub next_kept : (e : Event B M L F) (s n : StationEnd L F M B) → HandlesNext e s n → IsStationOf run homes s → IsStationOf run homes n
  next_kept e s n h k = handles_kept e (with_batch h.rest s) n (fits_run s e k h.next.fits) h.handled (batch_kept h.rest s k)

  pub next_goes : (e : Event B M L F) (s n : StationEnd L F M B) → HandlesNext e s n → IsStationOf run homes s → MayAllGo homes s → MayAllGo homes n
  next_goes e s n h k go = handles_goes e (with_batch h.rest s) n (fits_run s e k h.next.fits) h.handled (batch_kept h.rest s k) go

  pub stop_kept : (e : Event B M L F) (why : Stop) (s n : StationEnd L F M B) → StopsNext e why s n → IsStationOf run homes s → IsStationOf run homes n
  stop_kept e why s n h k = handles_not_kept e why (with_batch h.rest s) n (fits_run s e k h.next.fits) h.stopped (batch_kept h.rest s k)

  pub each_kept : (es : List (Event B M L F)) (s n : StationEnd L F M B) → HandlesEach es s n → IsStationOf run homes s → IsStationOf run homes n
  each_kept [] s n h k = subst (IsStationOf run homes) (sym h) k
  each_kept (e ∷ es) s n h k = each_kept es h.0 n h.2 (next_kept e s h.0 h.1 k)

  pub each_goes : (es : List (Event B M L F)) (s n : StationEnd L F M B) → HandlesEach es s n → IsStationOf run homes s → MayAllGo homes s → MayAllGo homes n
  each_goes [] s n h k go = subst (MayAllGo homes) (sym h) go
  each_goes (e ∷ es) s n h k go = each_goes es h.0 n h.2 (next_kept e s h.0 h.1 k) (next_goes e s h.0 h.1 k go)
