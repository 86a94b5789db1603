-- The take of a turn's events, and the next of them.
use Rattle.std.proofs.Common.{◌≡◌, ◌+◌, ◌<◌, ◌≤◌, ℕ, List, [], ◌∷◌, ◌++◌, length, map, refl, sym, ap, subst, ◌∙◌, append_assoc, arith}
use Rattle.std.proofs.lemmas.List.{append-nil}
use Rattle.lw_base.specs.Letters.{FitsRing}
use Rattle.lw_ring.specs.Calls.{InTurn}
use Rattle.lw_thread.specs.Runs.{RunId}
use Rattle.lw_thread.specs.Threads.{Thread}
use Rattle.lw_event.specs.Calls.{WasEmpty}
use Rattle.lw_event.specs.Events.{letter_of, event_fits}
use Rattle.lw_event.specs.Desks.{Desk, IsStill, most_taken}
use Rattle.lw_event.specs.declared.event.Event.{Event}
use Rattle.lw_event.proofs.Keeping.{still_taken}
use Rattle.lw_station.specs.declared.stop.Stop.{Stop}
use Rattle.lw_station.specs.Stations.{StationEnd, IsStationOf, MayAllGo}
use Rattle.lw_station.specs.Handling.{HandlesAll, HandlesEach, HandlesNext, HandlesNot, IsNext, StopsNext, Takes, with_batch}
use Rattle.lw_station.proofs.Keeps.{batch_kept, takes_kept, takes_goes, each_kept, each_goes}
use Rattle.lw_station.proofs.Steps.{still_both, next_rest, each_number, each_still, stop_steps}

module _ {L F M B : Type 0} where
  -- the next event was handed out of the batch
  pub handed_out : (v s : StationEnd L F M B) (e : Event B M L F) (d : Desk B M L F) → v ≡ s → v.events ≡ record d { batch = e ∷ d.batch } → with_batch d.batch s ≡ record v { events = d }
  handed_out v s e d is next = ap (with_batch d.batch) (sym is) ∙ (λ i. record v { events = record (next i) { batch = d.batch } })

  pub is_next : (v s : StationEnd L F M B) (e : Event B M L F) (d : Desk B M L F) → v ≡ s → v.events ≡ record d { batch = e ∷ d.batch } → v.events.number ≡ v.number → FitsRing event_fits v.events.number v.events.recv.family e → IsNext e d.batch s
  is_next v s e d is next own fits = subst (IsNext e d.batch) is
      (record { batch = ap (λ (x : Desk B M L F). x.batch) next; fits = subst (λ n. FitsRing event_fits n v.events.recv.family e) own fits })

  pub out_kept : (run : RunId F) (homes : List ℕ) (v s : StationEnd L F M B) (e : Event B M L F) (d : Desk B M L F) → v ≡ s → v.events ≡ record d { batch = e ∷ d.batch } → IsStationOf run homes s → IsStationOf run homes (record v { events = d })
  out_kept run homes v s e d is next k = subst (IsStationOf run homes) (handed_out v s e d is next) (batch_kept run homes d.batch s k)

  pub out_goes : (homes : List ℕ) (v s : StationEnd L F M B) (e : Event B M L F) (d : Desk B M L F) → v ≡ s → v.events ≡ record d { batch = e ∷ d.batch } → MayAllGo homes s → MayAllGo homes (record v { events = d })
  out_goes homes v s e d is next go = subst (MayAllGo homes) (sym is) go

  own_number : (run : RunId F) (homes : List ℕ) (v s : StationEnd L F M B) → v ≡ s → IsStationOf run homes s → v.events.number ≡ v.number
  own_number run homes v s is k = subst (λ (x : StationEnd L F M B). x.events.number ≡ x.number) (sym is) k.events_number

  pub stops_is : (run : RunId F) (homes : List ℕ) (v s n : StationEnd L F M B) (e : Event B M L F) (d : Desk B M L F) (why : Stop) → v ≡ s → v.events ≡ record d { batch = e ∷ d.batch } → IsStationOf run homes s → FitsRing event_fits v.events.number v.events.recv.family e
      → HandlesNot e why (record v { events = d }) n → StopsNext e why s n
  stops_is run homes v s n e d why is next k fits h = record {
    rest = d.batch;
    next = is_next v s e d is next (own_number run homes v s is k) fits;
    stopped = subst (λ (x : StationEnd L F M B). HandlesNot e why x n) (sym (handed_out v s e d is next)) h;
  }

  -- one take gave this batch
  pub takes_is : (v s : StationEnd L F M B) (list : List (Thread L F M B)) (room : ℕ) (d : Desk B M L F) → v ≡ s → list ≡ v.list → length v.list + most_taken ≤ room → length d.batch ≤ most_taken
      → d ≡ record v.events { recv = record v.events.recv { taken = v.events.recv.taken ++ map letter_of d.batch; hand = d.recv.hand }; batch = d.batch }
      → InTurn v.events.recv.hand (map letter_of d.batch) d.recv.hand → (length d.batch < most_taken → (d.recv.hand ≡ []) × WasEmpty d)
      → Takes d.batch s (record v { list = list; room = room; events = d })
  takes_is v s list room d is same enough few took order fewer = subst (λ (x : StationEnd L F M B). Takes d.batch x (record v { list = list; room = room; events = d })) is
      (record { few = few; order = order; fewer = fewer; room = enough; taken = λ i. record v { list = same i; room = room; events = took i } })

  takes_number : (batch : List (Event B M L F)) (s m : StationEnd L F M B) → Takes batch s m → m.number ≡ s.number
  takes_number batch s m t = ap (λ (x : StationEnd L F M B). x.number) t.taken

  takes_still : (batch : List (Event B M L F)) (s m : StationEnd L F M B) → Takes batch s m → IsStill s.events m.events
  takes_still batch s m t = subst (λ (x : StationEnd L F M B). IsStill s.events x.events) (sym t.taken)
      (still_taken s.events (record s.events.recv { taken = s.events.recv.taken ++ map letter_of batch; hand = m.events.recv.hand }) batch (s.events.recv.taken ++ map letter_of batch) refl)

  -- one more is done, and the batch as a whole is the same
  pub batch_more : (done : List (Event B M L F)) (e : Event B M L F) (s n : StationEnd L F M B) → HandlesNext e s n → done ++ s.events.batch ≡ (done ++ e ∷ []) ++ n.events.batch
  batch_more done e s n h = ap (λ r. done ++ r) (next_rest e s n h) ∙ sym (append_assoc done (e ∷ []) n.events.batch)

  pub more_taken : (done : List (Event B M L F)) (e : Event B M L F) (o m s n : StationEnd L F M B) → HandlesNext e s n → Takes (done ++ s.events.batch) o m → Takes ((done ++ e ∷ []) ++ n.events.batch) o m
  more_taken done e o m s n h t = subst (λ (es : List (Event B M L F)). Takes es o m) (batch_more done e s n h) t

  pub none_left : (es : List (Event B M L F)) → length es ≡ 0 → es ≡ []
  none_left [] none = refl
  none_left (e ∷ es) none = absurd (omega arith)

  -- all are done once none is left
  pub all_handled : (done : List (Event B M L F)) (o m s : StationEnd L F M B) (count : ℕ) → s.events.batch ≡ [] → Takes (done ++ s.events.batch) o m → HandlesEach done m s → length (done ++ s.events.batch) ≡ count → (h : HandlesAll o s) × (count ≡ length h.batch)
  all_handled done o m s count none t h whole =
      let all : done ++ s.events.batch ≡ done = ap (λ r. done ++ r) none ∙ append-nil done in
      (record { batch = done ++ s.events.batch; mid = m; taken = t; handled = subst (λ (es : List (Event B M L F)). HandlesEach es m s) (sym all) h }, sym whole)

  -- what stays through a take and what was handled
  pub some_kept : (run : RunId F) (homes : List ℕ) (batch done : List (Event B M L F)) (o m s : StationEnd L F M B) → Takes batch o m → HandlesEach done m s → IsStationOf run homes o → IsStationOf run homes s
  some_kept run homes batch done o m s t h k = each_kept run homes done m s h (takes_kept run homes batch o m t k)

  pub some_go : (run : RunId F) (homes : List ℕ) (batch done : List (Event B M L F)) (o m s : StationEnd L F M B) → Takes batch o m → HandlesEach done m s → IsStationOf run homes o → MayAllGo homes o → MayAllGo homes s
  some_go run homes batch done o m s t h k go = each_goes run homes done m s h (takes_kept run homes batch o m t k) (takes_goes run homes batch o m t go)

  pub some_still : (batch done : List (Event B M L F)) (o m s : StationEnd L F M B) → Takes batch o m → HandlesEach done m s → (s.number ≡ o.number) × IsStill o.events s.events
  some_still batch done o m s t h = (each_number done m s h ∙ takes_number batch o m t, still_both o.events m.events s.events (takes_still batch o m t) (each_still done m s h))

  -- and through an event at which it stopped
  pub stop_still : (batch done : List (Event B M L F)) (e : Event B M L F) (why : Stop) (o m s n : StationEnd L F M B) → Takes batch o m → HandlesEach done m s → StopsNext e why s n → (n.number ≡ o.number) × IsStill o.events n.events
  stop_still batch done e why o m s n t h x =
      let one = some_still batch done o m s t h in
      let two = stop_steps e why s n x in
      (two.number ∙ one.0, still_both o.events s.events n.events one.1 two.still)
