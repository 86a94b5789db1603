-- What the polls of a turn keep.
use Rattle.std.proofs.Common.{◌≡◌, ℕ, ◌+◌, ◌-◌, Bool, true, false, List, [], ◌∷◌, ◌++◌, length, Option, All, refl, sym, ap, subst, ◌∙◌, ⊎_elim, length-set, add-zero, arith}
use Rattle.std.specs.Prelude.{remove, slice_set}
use Rattle.std.proofs.lemmas.List.{length_push}
use Rattle.std.proofs.lemmas.List.Edits.{length-remove}
use Rattle.std.proofs.lemmas.List.Elements.{All-push, All-set}
use Rattle.lw_place.specs.PlaceSeats.{ThreadEnd}
use Rattle.lw_event.specs.Desks.{Desk}
use Rattle.lw_event.specs.Desks as desks
use Rattle.lw_thread.specs.declared.ending.Why.TheVariants as why
use Rattle.lw_thread.specs.declared.ending.Ending.TheVariants.{Ended}
use Rattle.lw_thread.specs.declared.stop.Polled.{Polled}
use Rattle.lw_thread.specs.declared.stop.Stop.{Stop as Cause}
use Rattle.lw_thread.specs.Rest.{Left}
use Rattle.lw_thread.specs.Runs.{RunId}
use Rattle.lw_thread.specs.Threads.{Thread, IsStill, booked, last_of}
use Rattle.lw_thread.specs.Endings.{IsEnded}
use Rattle.lw_thread.proofs.OfRun.{ends_same, not_yet_still, of_run_ends, of_run_still}
use Rattle.lw_station.specs.declared.stop.Stop.{Stop}
use Rattle.lw_station.specs.Stations.{IsHere, IsStationOf, MayAllGo, MayGo, Stands, StationEnd}
use Rattle.lw_station.proofs.Movers.{All-remove}
use Rattle.lw_station.proofs.Steps.{same_still}
use Rattle.lw_reactor.specs.Workers.{HasEnded, IsWorkerOf, WorkerEnd, with_sent}
use Rattle.lw_reactor.specs.Reactors.{ReadingsGoOn}
use Rattle.lw_reactor.specs.Polling.{Ends, EndsNot, HaltsAt, IsPolled, IsThere, PollHalts, PollsFrom, PollsNext, PollsOne, PollsThread, PollingStops, RoomHalts, StartHalts, Stays, TriesEnd, TriesNot, next_place, place_behind}
use Rattle.lw_reactor.proofs.Sending.{SentOn, starts_on}
use Rattle.lw_reactor.proofs.Stills.{WorkerStill, reads_now, readings_one, readings_same, sent_worker_still, worker_both, worker_same, worker_sent}

-- how many threads are gone
abbrev pub gone : Bool → ℕ
gone true = 1
gone false = 0

-- what holds of each holds of the one at a place
pub there_all : {X : Type 0} (P : X → Type 0) (xs : List X) (at : ℕ) (x : X) → IsThere xs at x → All P xs → P x
there_all P xs at x i all = subst P (i.there x) (all at x i.range)

module _ {L F M B : Type 0} where
  -- whose thread it is stays where ticks are booked
  booked_still : (t : Thread L F M B) (worked : Bool) (ticks : ℕ) → IsStill t (record t { load = booked worked ticks t.load })
  booked_still t true ticks = record { seat = (refl, refl); recv = refl; ends = ends_same t.ends; load = (refl, refl) }
  booked_still t false ticks = record { seat = (refl, refl); recv = refl; ends = ends_same t.ends; load = (refl, refl) }

  -- a thread that stands where it stood stands there
  pub stays_stand : (run : RunId F) (reactor : ℕ) (t u : Thread L F M B) → Stays t u → Stands run reactor t → Stands run reactor u
  stays_stand run reactor t u s k = record { of_run = of_run_still run t u s.still k.of_run; place = ap (λ (x : ThreadEnd). x.place) s.seat ∙ k.place }

  here_still : (reactor : ℕ) (homes : List ℕ) (t u : Thread L F M B) → u.seat.thread ≡ t.seat.thread → u.trail ≡ t.trail → IsHere reactor homes t.seat.thread (last_of t.trail) → IsHere reactor homes u.seat.thread (last_of u.trail)
  here_still reactor homes t u thread trail h = subst (λ n. IsHere reactor homes n (last_of u.trail)) (sym thread) (subst (λ hs. IsHere reactor homes t.seat.thread (last_of hs)) (sym trail) h)

  booked_stands : (run : RunId F) (reactor : ℕ) (t : Thread L F M B) (worked : Bool) (ticks : ℕ) → Stands run reactor t → Stands run reactor (record t { load = booked worked ticks t.load })
  booked_stands run reactor t worked ticks k = record { of_run = of_run_still run t (record t { load = booked worked ticks t.load }) (booked_still t worked ticks) k.of_run; place = k.place }

module _ {L F M B C : Type 0} where
  -- the worker once its station has sent events
  pub started_is : (m v : WorkerEnd L F M B C) → v ≡ record m { station = v.station } → v.station ≡ record m.station { events = v.station.events; sleeper = v.station.sleeper } → v ≡ with_sent v.station.events v.station.sleeper m
  started_is m v is sent = is ∙ (λ i. record m { station = sent i })

module _ {L F M B C : Type 0} (readings : C → Option (List ℕ)) (polls : ℕ → Thread L F M B → Thread L F M B → Polled → Type 0) where
  polled_stands : (run : RunId F) (reactor : ℕ) (p : Polled) (t u : Thread L F M B) (c d : C) (n m : ℕ) → IsPolled readings polls p t u c d n m → Stands run reactor t → Stands run reactor u
  polled_stands run reactor p t u c d n m h k = subst (Stands run reactor) (sym h.booked_so) (booked_stands run reactor h.mid p.worked (m - n) (stays_stand run reactor t h.mid h.stays k))

  polled_goes : (reactor : ℕ) (homes : List ℕ) (p : Polled) (t u : Thread L F M B) (c d : C) (n m : ℕ) → IsPolled readings polls p t u c d n m → MayGo reactor homes t → MayGo reactor homes u
  polled_goes reactor homes p t u c d n m h g = subst (MayGo reactor homes) (sym h.booked_so)
      (record { going = h.going; here = here_still reactor homes t h.mid (ap (λ (x : ThreadEnd). x.thread) (h.stays).seat) (h.stays).trail g.here })

  -- ---- the worker with another list

  pub one_kept : (run : RunId F) (homes : List ℕ) (at : ℕ) (p : Polled) (w v : WorkerEnd L F M B C) → PollsOne readings polls at p w v → IsWorkerOf run homes w → IsWorkerOf run homes v
  one_kept run homes at p w v h k =
      let s = k.station in
      let l = h.polls_list in
      let number = w.station.number in
      let stands = polled_stands run number p l.thread l.polled_thread w.clock v.clock w.now v.now l.is_polled (there_all (Stands run number) w.station.list at l.thread l.is_there s.list) in
      let here = ap (λ (x : StationEnd L F M B). x.number) l.station in
      subst (IsWorkerOf run homes) (sym h.worker) (record {
        station = subst (IsStationOf run homes) (sym l.station) (record { family = s.family; events_number = s.events_number; reactors = s.reactors; own = s.own; wakers = s.wakers; list = All-set (Stands run number) w.station.list at l.polled_thread stands s.list; held = s.held });
        desk = k.desk;
        retired = k.retired;
        few = k.few;
        remains = subst (λ n. All (HasEnded run n homes) w.remains) (sym here) k.remains;
      })

  one_goes : (homes : List ℕ) (at : ℕ) (p : Polled) (w v : WorkerEnd L F M B C) → PollsOne readings polls at p w v → MayAllGo homes w.station → MayAllGo homes v.station
  one_goes homes at p w v h g =
      let l = h.polls_list in
      let goes = polled_goes w.station.number homes p l.thread l.polled_thread w.clock v.clock w.now v.now l.is_polled (there_all (MayGo w.station.number homes) w.station.list at l.thread l.is_there g) in
      subst (MayAllGo homes) (sym l.station) (All-set (MayGo w.station.number homes) w.station.list at l.polled_thread goes g)

  one_still : (at : ℕ) (p : Polled) (w v : WorkerEnd L F M B C) → PollsOne readings polls at p w v → WorkerStill readings w v
  one_still at p w v h =
      let l = h.polls_list in
      let r = (l.is_polled).reads in
      record {
        number = ap (λ (x : StationEnd L F M B). x.number) l.station;
        events = subst (λ (x : StationEnd L F M B). desks.IsStill w.station.events x.events) (sym l.station) (same_still w.station.events);
        desk = ap (λ (x : WorkerEnd L F M B C). x.desk.places) h.worker;
        now = reads_now readings w.clock v.clock w.now v.now r;
        clock = readings_one (readings w.clock) (readings v.clock) r.reading r.continues;
      }

  pub thread_kept : (run : RunId F) (homes : List ℕ) (at : ℕ) (w v : WorkerEnd L F M B C) → PollsThread readings polls homes at w v → IsWorkerOf run homes w → IsWorkerOf run homes v
  thread_kept run homes at w v h k =
      let m = h.mid in
      let on = starts_on homes (h.polled).started.items m.station.events v.station.events m.station.sleeper v.station.sleeper (h.started).sent in
      subst (IsWorkerOf run homes) (sym (started_is m v h.worker (h.started).station)) (worker_sent run homes m v.station.events v.station.sleeper on (one_kept run homes at h.polled w m h.polls_one k))

  pub thread_goes : (homes : List ℕ) (at : ℕ) (w v : WorkerEnd L F M B C) → PollsThread readings polls homes at w v → MayAllGo homes w.station → MayAllGo homes v.station
  thread_goes homes at w v h g = subst (λ (x : WorkerEnd L F M B C). MayAllGo homes x.station) (sym (started_is h.mid v h.worker (h.started).station)) (one_goes homes at h.polled w h.mid h.polls_one g)

  pub thread_still : (homes : List ℕ) (at : ℕ) (w v : WorkerEnd L F M B C) → PollsThread readings polls homes at w v → WorkerStill readings w v
  thread_still homes at w v h =
      let m = h.mid in
      let on = starts_on homes (h.polled).started.items m.station.events v.station.events m.station.sleeper v.station.sleeper (h.started).sent in
      worker_both readings w m v (one_still at h.polled w m h.polls_one) (subst (WorkerStill readings m) (sym (started_is m v h.worker (h.started).station)) (sent_worker_still readings m v.station.events v.station.sleeper on))

  one_batch : (at : ℕ) (p : Polled) (w v : WorkerEnd L F M B C) → PollsOne readings polls at p w v → v.station.events.batch ≡ w.station.events.batch
  one_batch at p w v h = ap (λ (x : StationEnd L F M B). x.events.batch) (h.polls_list).station

  thread_batch : (homes : List ℕ) (at : ℕ) (w v : WorkerEnd L F M B C) → PollsThread readings polls homes at w v → v.station.events.batch ≡ w.station.events.batch
  thread_batch homes at w v h =
      let m = h.mid in
      let on = starts_on homes (h.polled).started.items m.station.events v.station.events m.station.sleeper v.station.sleeper (h.started).sent in
      on.batch ∙ one_batch at h.polled w m h.polls_one

  -- as many threads stand in the list as before
  pub thread_count : (homes : List ℕ) (at : ℕ) (w v : WorkerEnd L F M B C) → PollsThread readings polls homes at w v → length v.station.list ≡ length w.station.list
  thread_count homes at w v h = ap (λ (x : StationEnd L F M B). length x.list) (h.started).station ∙ ap (λ (x : StationEnd L F M B). length x.list) ((h.polls_one).polls_list).station ∙ length-set w.station.list at ((h.polls_one).polls_list).polled_thread

module _ {L F M B : Type 0} (ends : B → Bool) where
  -- what is left of a thread that ended where it belonged
  ended_here : (run : RunId F) (reactor : ℕ) (homes : List ℕ) (t : Thread L F M B) (r : Left L F B) → IsEnded ends t r → Stands run reactor t → MayGo reactor homes t → HasEnded run reactor homes r
  ended_here run reactor homes t r h k g = record {
    of_run = of_run_ends ends run t (Ended r) h k.of_run;
    place = ap (λ (x : ThreadEnd). x.place) h.seat;
    here = subst (λ n. IsHere reactor homes n (last_of r.trail)) (sym (ap (λ (x : ThreadEnd). x.thread) h.seat)) (subst (λ hs. IsHere reactor homes t.seat.thread (last_of hs)) (sym h.trail) g.here);
  }

module _ {L F M B C : Type 0} (ends : B → Bool) where
  -- ---- the try to end a thread

  ends_kept : (run : RunId F) (homes : List ℕ) (at : ℕ) (w v : WorkerEnd L F M B C) → Ends ends at w v → MayAllGo homes w.station → IsWorkerOf run homes w → IsWorkerOf run homes v
  ends_kept run homes at w v h g k =
      let s = k.station in
      let e = h.ended in
      let number = w.station.number in
      let stands = there_all (Stands run number) w.station.list at e.thread e.is_there s.list in
      let goes = there_all (MayGo number homes) w.station.list at e.thread e.is_there g in
      let long = length_push w.remains h.left in
      let few = h.few in
      let retired = k.retired in
      let here = ap (λ (x : StationEnd L F M B). x.number) e.station in
      subst (IsWorkerOf run homes) (sym h.worker) (record {
        station = subst (IsStationOf run homes) (sym e.station) (record { family = s.family; events_number = s.events_number; reactors = s.reactors; own = s.own; wakers = s.wakers; list = All-remove (Stands run number) w.station.list at s.list; held = s.held });
        desk = k.desk;
        retired = omega arith;
        few = omega arith;
        remains = subst (λ n. All (HasEnded run n homes) (w.remains ++ h.left ∷ [])) (sym here) (All-push (HasEnded run number homes) w.remains h.left k.remains (ended_here ends run number homes e.thread h.left e.ended stands goes));
      })

  not_kept : (run : RunId F) (homes : List ℕ) (at : ℕ) (w v : WorkerEnd L F M B C) → EndsNot ends at w v → IsWorkerOf run homes w → IsWorkerOf run homes v
  not_kept run homes at w v h k =
      let s = k.station in
      let e = h.tried in
      let number = w.station.number in
      let stands = there_all (Stands run number) w.station.list at e.thread e.is_there s.list in
      let still = not_yet_still ends e.thread e.after (why.Ring e.seen) e.tried in
      let place = ap (λ (x : Thread L F M B). x.seat.place) (e.tried).2 in
      let here = ap (λ (x : StationEnd L F M B). x.number) e.station in
      subst (IsWorkerOf run homes) (sym h.worker) (record {
        station = subst (IsStationOf run homes) (sym e.station) (record { family = s.family; events_number = s.events_number; reactors = s.reactors; own = s.own; wakers = s.wakers; list = All-set (Stands run number) w.station.list at e.after (record { of_run = of_run_still run e.thread e.after still stands.of_run; place = place ∙ stands.place }) s.list; held = s.held });
        desk = k.desk;
        retired = k.retired;
        few = k.few;
        remains = subst (λ n. All (HasEnded run n homes) w.remains) (sym here) k.remains;
      })

  ends_goes : (homes : List ℕ) (at : ℕ) (w v : WorkerEnd L F M B C) → Ends ends at w v → MayAllGo homes w.station → MayAllGo homes v.station
  ends_goes homes at w v h g = subst (MayAllGo homes) (sym (h.ended).station) (All-remove (MayGo w.station.number homes) w.station.list at g)

  not_goes : (homes : List ℕ) (at : ℕ) (w v : WorkerEnd L F M B C) → EndsNot ends at w v → MayAllGo homes w.station → MayAllGo homes v.station
  not_goes homes at w v h g =
      let e = h.tried in
      let number = w.station.number in
      let goes = there_all (MayGo number homes) w.station.list at e.thread e.is_there g in
      let after : MayGo number homes e.after = subst (MayGo number homes) (sym (e.tried).2) (record { going = goes.going; here = goes.here }) in
      subst (MayAllGo homes) (sym e.station) (All-set (MayGo number homes) w.station.list at e.after after g)

  pub tries_kept : (run : RunId F) (homes : List ℕ) (at : ℕ) (ended : Bool) (w v : WorkerEnd L F M B C) → TriesEnd ends at ended w v → MayAllGo homes w.station → IsWorkerOf run homes w → IsWorkerOf run homes v
  tries_kept run homes at true w v h g k = ends_kept run homes at w v h g k
  tries_kept run homes at false w v h g k = ⊎_elim (λ a. not_kept run homes at w v a k) (λ (b : TriesNot ends at w v). subst (IsWorkerOf run homes) (sym b.worker) k) h

  tries_goes : (homes : List ℕ) (at : ℕ) (ended : Bool) (w v : WorkerEnd L F M B C) → TriesEnd ends at ended w v → MayAllGo homes w.station → MayAllGo homes v.station
  tries_goes homes at true w v h g = ends_goes homes at w v h g
  tries_goes homes at false w v h g = ⊎_elim (λ a. not_goes homes at w v a g) (λ (b : TriesNot ends at w v). subst (λ (x : WorkerEnd L F M B C). MayAllGo homes x.station) (sym b.worker) g) h

  -- whose worker it is, and what it has taken, stays; of the list the ended thread alone is gone
  pub record TriesOn (readings : C → Option (List ℕ)) (ended : Bool) (w v : WorkerEnd L F M B C) : Type 0 where
    pub still : WorkerStill readings w v
    pub batch : v.station.events.batch ≡ w.station.events.batch
    pub count : length v.station.list + gone ended ≡ length w.station.list

  station_on : (readings : C → Option (List ℕ)) (ended : Bool) (w v : WorkerEnd L F M B C) (s : StationEnd L F M B) → v.station ≡ s → s.number ≡ w.station.number → s.events ≡ w.station.events → length s.list + gone ended ≡ length w.station.list
      → v.desk.places ≡ w.desk.places → v.clock ≡ w.clock → v.now ≡ w.now → TriesOn readings ended w v
  station_on readings ended w v s is number events count places clock now = record {
    still = record {
      number = ap (λ (x : StationEnd L F M B). x.number) is ∙ number;
      events = subst (λ (x : StationEnd L F M B). desks.IsStill w.station.events x.events) (sym is) (subst (desks.IsStill w.station.events) (sym events) (same_still w.station.events));
      desk = places;
      now = (let same = now in omega arith);
      clock = subst (λ (c : C). ReadingsGoOn (readings w.clock) (readings c)) (sym clock) (readings_same (readings w.clock));
    };
    batch = ap (λ (x : StationEnd L F M B). x.events.batch) is ∙ ap (λ (x : Desk B M L F). x.batch) events;
    count = ap (λ (x : StationEnd L F M B). length x.list + gone ended) is ∙ count;
  }

  ends_on : (readings : C → Option (List ℕ)) (at : ℕ) (w v : WorkerEnd L F M B C) → Ends ends at w v → TriesOn readings true w v
  ends_on readings at w v h =
      let e = h.ended in
      station_on readings true w v (record w.station { list = remove w.station.list at }) e.station refl refl (length-remove w.station.list at (e.is_there).range)
      (ap (λ (x : WorkerEnd L F M B C). x.desk.places) h.worker) (ap (λ (x : WorkerEnd L F M B C). x.clock) h.worker) (ap (λ (x : WorkerEnd L F M B C). x.now) h.worker)

  not_on : (readings : C → Option (List ℕ)) (at : ℕ) (w v : WorkerEnd L F M B C) → EndsNot ends at w v → TriesOn readings false w v
  not_on readings at w v h =
      let e = h.tried in
      station_on readings false w v (record w.station { list = slice_set w.station.list at e.after; room = v.station.room }) e.station refl refl (add-zero _ ∙ length-set w.station.list at e.after)
      (ap (λ (x : WorkerEnd L F M B C). x.desk.places) h.worker) (ap (λ (x : WorkerEnd L F M B C). x.clock) h.worker) (ap (λ (x : WorkerEnd L F M B C). x.now) h.worker)

  none_on : (readings : C → Option (List ℕ)) (w v : WorkerEnd L F M B C) → v ≡ w → TriesOn readings false w v
  none_on readings w v e = subst (TriesOn readings false w) (sym e) (record { still = worker_same readings w w refl; batch = refl; count = add-zero _ })

  pub tries_on : (readings : C → Option (List ℕ)) (at : ℕ) (ended : Bool) (w v : WorkerEnd L F M B C) → TriesEnd ends at ended w v → TriesOn readings ended w v
  tries_on readings at true w v h = ends_on readings at w v h
  tries_on readings at false w v h = ⊎_elim (λ a. not_on readings at w v a) (λ (b : TriesNot ends at w v). none_on readings w v b.worker) h

module _ {L F M B C : Type 0} (readings : C → Option (List ℕ)) (polls : ℕ → Thread L F M B → Thread L F M B → Polled → Type 0) (ends : B → Bool) where
  -- ---- a thread, and several

  pub next_kept : (run : RunId F) (homes : List ℕ) (at : ℕ) (ended : Bool) (w v : WorkerEnd L F M B C) → PollsNext readings polls ends homes at ended w v → MayAllGo homes w.station → IsWorkerOf run homes w → IsWorkerOf run homes v
  next_kept run homes at ended w v h g k = tries_kept ends run homes at ended h.mid v h.tried (thread_goes readings polls homes at w h.mid h.polled g) (thread_kept readings polls run homes at w h.mid h.polled k)

  pub next_goes : (homes : List ℕ) (at : ℕ) (ended : Bool) (w v : WorkerEnd L F M B C) → PollsNext readings polls ends homes at ended w v → MayAllGo homes w.station → MayAllGo homes v.station
  next_goes homes at ended w v h g = tries_goes ends homes at ended h.mid v h.tried (thread_goes readings polls homes at w h.mid h.polled g)

  pub next_on : (homes : List ℕ) (at : ℕ) (ended : Bool) (w v : WorkerEnd L F M B C) → PollsNext readings polls ends homes at ended w v → TriesOn ends readings ended w v
  next_on homes at ended w v h =
      let on = tries_on ends readings at ended h.mid v h.tried in
      record {
        still = worker_both readings w h.mid v (thread_still readings polls homes at w h.mid h.polled) on.still;
        batch = on.batch ∙ thread_batch readings polls homes at w h.mid h.polled;
        count = on.count ∙ thread_count readings polls homes at w h.mid h.polled;
      }

  pub from_kept : (run : RunId F) (homes : List ℕ) (at : ℕ) (es : List Bool) (w v : WorkerEnd L F M B C) → PollsFrom readings polls ends homes at es w v → MayAllGo homes w.station → IsWorkerOf run homes w → IsWorkerOf run homes v
  from_kept run homes at [] w v h g k = subst (IsWorkerOf run homes) (sym h) k
  from_kept run homes at (e ∷ es) w v h g k = from_kept run homes (next_place at e) es h.0 v h.2 (next_goes homes at e w h.0 h.1 g) (next_kept run homes at e w h.0 h.1 g k)

  pub from_goes : (homes : List ℕ) (at : ℕ) (es : List Bool) (w v : WorkerEnd L F M B C) → PollsFrom readings polls ends homes at es w v → MayAllGo homes w.station → MayAllGo homes v.station
  from_goes homes at [] w v h g = subst (λ (x : WorkerEnd L F M B C). MayAllGo homes x.station) (sym h) g
  from_goes homes at (e ∷ es) w v h g = from_goes homes (next_place at e) es h.0 v h.2 (next_goes homes at e w h.0 h.1 g)

  pub from_still : (homes : List ℕ) (at : ℕ) (es : List Bool) (w v : WorkerEnd L F M B C) → PollsFrom readings polls ends homes at es w v → WorkerStill readings w v
  from_still homes at [] w v h = worker_same readings w v h
  from_still homes at (e ∷ es) w v h = worker_both readings w h.0 v (next_on homes at e w h.0 h.1).still (from_still homes (next_place at e) es h.0 v h.2)

  pub from_batch : (homes : List ℕ) (at : ℕ) (es : List Bool) (w v : WorkerEnd L F M B C) → PollsFrom readings polls ends homes at es w v → v.station.events.batch ≡ w.station.events.batch
  from_batch homes at [] w v h = ap (λ (x : WorkerEnd L F M B C). x.station.events.batch) h
  from_batch homes at (e ∷ es) w v h = from_batch homes (next_place at e) es h.0 v h.2 ∙ (next_on homes at e w h.0 h.1).batch

  -- one thread more
  pub from_more : (homes : List ℕ) (at : ℕ) (es : List Bool) (e : Bool) (w m v : WorkerEnd L F M B C) → PollsFrom readings polls ends homes at es w m → PollsNext readings polls ends homes (place_behind at es) e m v → PollsFrom readings polls ends homes at (es ++ e ∷ []) w v
  from_more homes at [] e w m v h n = (v, subst (λ (x : WorkerEnd L F M B C). PollsNext readings polls ends homes at e x v) h n, refl)
  from_more homes at (d ∷ ds) e w m v h n = (h.0, h.1, from_more homes (next_place at d) ds e h.0 m v h.2 n)

-- the place behind one thread more
pub behind_more : (at : ℕ) (es : List Bool) (e : Bool) → place_behind at (es ++ e ∷ []) ≡ next_place (place_behind at es) e
behind_more at [] e = refl
behind_more at (d ∷ ds) e = behind_more (next_place at d) ds e

module _ {L F M B C : Type 0} (readings : C → Option (List ℕ)) (polls : ℕ → Thread L F M B → Thread L F M B → Polled → Type 0) (halts : ℕ → Thread L F M B → Thread L F M B → Cause → Type 0) (ends : B → Bool) where
  -- ---- a thread at which the reactor stopped

  poll_halts_kept : (run : RunId F) (homes : List ℕ) (at : ℕ) (why : Stop) (w v : WorkerEnd L F M B C) → PollHalts readings polls halts ends at why w v → IsWorkerOf run homes w → IsWorkerOf run homes v
  poll_halts_kept run homes at why w v h k =
      let s = k.station in
      let l = h.halts_list in
      let number = w.station.number in
      let stands = stays_stand run number l.thread l.halted_thread (l.is_halted).stays (there_all (Stands run number) w.station.list at l.thread l.is_there s.list) in
      let here = ap (λ (x : StationEnd L F M B). x.number) l.station in
      subst (IsWorkerOf run homes) (sym h.worker) (record {
        station = subst (IsStationOf run homes) (sym l.station) (record { family = s.family; events_number = s.events_number; reactors = s.reactors; own = s.own; wakers = s.wakers; list = All-set (Stands run number) w.station.list at l.halted_thread stands s.list; held = s.held });
        desk = k.desk;
        retired = k.retired;
        few = k.few;
        remains = subst (λ n. All (HasEnded run n homes) w.remains) (sym here) k.remains;
      })

  poll_halts_still : (at : ℕ) (why : Stop) (w v : WorkerEnd L F M B C) → PollHalts readings polls halts ends at why w v → WorkerStill readings w v
  poll_halts_still at why w v h =
      let l = h.halts_list in
      record {
        number = ap (λ (x : StationEnd L F M B). x.number) l.station;
        events = subst (λ (x : StationEnd L F M B). desks.IsStill w.station.events x.events) (sym l.station) (same_still w.station.events);
        desk = ap (λ (x : WorkerEnd L F M B C). x.desk.places) h.worker;
        now = (let same = ap (λ (x : WorkerEnd L F M B C). x.now) h.worker in omega arith);
        clock = subst (λ (x : WorkerEnd L F M B C). ReadingsGoOn (readings w.clock) (readings x.clock)) (sym h.worker) (readings_same (readings w.clock));
      }

  start_on : (homes : List ℕ) (at : ℕ) (why : Stop) (w v : WorkerEnd L F M B C) → (h : StartHalts readings polls halts ends homes at why w v) → SentOn (h.mid).station.events v.station.events (h.mid).station.sleeper v.station.sleeper
  start_on homes at why w v h = let m = h.mid in starts_on homes ((h.started).some).done m.station.events v.station.events m.station.sleeper v.station.sleeper ((h.started).some).sent

  halts_at_kept : (run : RunId F) (homes : List ℕ) (at : ℕ) (why : Stop) (w v : WorkerEnd L F M B C) → HaltsAt readings polls halts ends homes at why w v → IsWorkerOf run homes w → IsWorkerOf run homes v
  halts_at_kept run homes at why w v h k = ⊎_elim
      (λ x. ⊎_elim (λ a. poll_halts_kept run homes at why w v a k)
      (λ (b : StartHalts readings polls halts ends homes at why w v). subst (IsWorkerOf run homes) (sym (started_is b.mid v b.worker (b.started).station)) (worker_sent run homes b.mid v.station.events v.station.sleeper (start_on homes at why w v b) (one_kept readings polls run homes at b.polled w b.mid b.polls_one k))) x)
      (λ (r : RoomHalts readings polls halts ends homes at why w v). subst (IsWorkerOf run homes) (sym (r.lacks).worker) (thread_kept readings polls run homes at w r.mid r.polled k))
      h

  halts_at_still : (homes : List ℕ) (at : ℕ) (why : Stop) (w v : WorkerEnd L F M B C) → HaltsAt readings polls halts ends homes at why w v → WorkerStill readings w v
  halts_at_still homes at why w v h = ⊎_elim
      (λ x. ⊎_elim (λ a. poll_halts_still at why w v a)
      (λ (b : StartHalts readings polls halts ends homes at why w v). worker_both readings w b.mid v (one_still readings polls at b.polled w b.mid b.polls_one)
      (subst (WorkerStill readings b.mid) (sym (started_is b.mid v b.worker (b.started).station)) (sent_worker_still readings b.mid v.station.events v.station.sleeper (start_on homes at why w v b)))) x)
      (λ (r : RoomHalts readings polls halts ends homes at why w v). worker_both readings w r.mid v (thread_still readings polls homes at w r.mid r.polled) (worker_same readings r.mid v (r.lacks).worker))
      h

  pub polling_stops_kept : (run : RunId F) (homes : List ℕ) (why : Stop) (w v : WorkerEnd L F M B C) → PollingStops readings polls halts ends homes why w v → MayAllGo homes w.station → IsWorkerOf run homes w → IsWorkerOf run homes v
  polling_stops_kept run homes why w v h g k = halts_at_kept run homes h.at why h.before v h.halts_so (from_kept readings polls ends run homes 0 h.ended w h.before h.polled g k)

  pub polling_stops_still : (homes : List ℕ) (why : Stop) (w v : WorkerEnd L F M B C) → PollingStops readings polls halts ends homes why w v → WorkerStill readings w v
  polling_stops_still homes why w v h = worker_both readings w h.before v (from_still readings polls ends homes 0 h.ended w h.before h.polled) (halts_at_still homes h.at why h.before v h.halts_so)
