-- A thread's turn: its poll, the orders to start those that it started, and the try to end it.
use Rattle.std.proofs.Common.{◌≡◌, ℕ, ◌+◌, ◌<◌, ◌≤◌, Bool, true, false, List, [], ◌∷◌, ◌++◌, length, Option, All, refl, sym, ap, subst, ◌∙◌, arith, inl, inr}
use Rattle.std.proofs.lemmas.List.{length-map}
use Rattle.lw_place.specs.PlaceSeats.{IsList}
use Rattle.lw_thread.specs.declared.stop.Polled.{Polled}
use Rattle.lw_thread.specs.declared.stop.Stop.{Stop as Cause}
use Rattle.lw_thread.specs.Runs.{RunId, ring_of_end}
use Rattle.lw_thread.specs.Threads.{Thread}
use Rattle.lw_station.specs.declared.stop.Stop.{Stop}
use Rattle.lw_station.specs.Stations.{MayAllGo, MayGo, Stands, StationEnd}
use Rattle.lw_reactor.specs.Workers.{AreHomes, IsWorkerOf, WorkerEnd}
use Rattle.lw_reactor.specs.Polling.{HaltsAt, IsThere, PollsOne, PollsThread, StationStarts, StationStartsSome, next_place, place_behind}
use Rattle.lw_reactor.proofs.Polled.{behind_more, gone, thread_count, thread_goes, thread_kept, there_all}
use Rattle.lw_reactor.proofs.Trying.{one_at}

module _ {L F M B : Type 0} where
  -- the number of a thread of the run is below that of the homes
  pub ends_homes : (run : RunId F) (reactor : ℕ) (homes : List ℕ) (t : Thread L F M B) → AreHomes run homes → Stands run reactor t → length t.ends ≡ length homes
  ends_homes run reactor homes t h s = sym (length-map t.ends ring_of_end) ∙ ap length (s.of_run).rings ∙ h.rings ∙ sym h.threads

module _ {L F M B C : Type 0} where
  pub started_below : (run : RunId F) (homes : List ℕ) (w : WorkerEnd L F M B C) (at : ℕ) (t : Thread L F M B) (xs ys : List ℕ) → AreHomes run homes → IsWorkerOf run homes w → IsThere w.station.list at t → ys ≡ xs → All (λ n. n < length t.ends) xs → All (λ n. n < length homes) ys
  started_below run homes w at t xs ys h k i same all = subst (All (λ n. n < length homes)) (sym same)
      (subst (λ m. All (λ n. n < m) xs) (ends_homes run w.station.number homes t h (there_all (Stands run w.station.number) w.station.list at t i (k.station).list)) all)

module _ {L F M B C : Type 0} (readings : C → Option (List ℕ)) (polls : ℕ → Thread L F M B → Thread L F M B → Polled → Type 0) where
  pub thread_is : (homes : List ℕ) (at : ℕ) (v m o : WorkerEnd L F M B C) (p : Polled) (ts : List ℕ) (s : StationEnd L F M B) → v ≡ m → ts ≡ p.started.items → PollsOne readings polls at p o m → StationStarts homes ts v.station s → PollsThread readings polls homes at o (record v { station = s })
  thread_is homes at v m o p ts s is same one h = record {
    polled = p;
    mid = v;
    polls_one = subst (PollsOne readings polls at p o) (sym is) one;
    started = subst (λ (xs : List ℕ). StationStarts homes xs v.station s) same h;
    worker = refl;
  }

  -- the thread may be tried to end
  pub may_try : (run : RunId F) (homes : List ℕ) (at : ℕ) (o v : WorkerEnd L F M B C) → PollsThread readings polls homes at o v → at < length o.station.list → IsWorkerOf run homes o → MayAllGo homes o.station
      → (t : Thread L F M B) × IsThere v.station.list at t × IsList t.seat.place × (t.stopped ≡ false)
  may_try run homes at o v h range k g =
      let k2 = thread_kept readings polls run homes at o v h k in
      let g2 = thread_goes readings polls homes at o v h g in
      let range2 : at < length v.station.list = subst (λ n. at < n) (sym (thread_count readings polls homes at o v h)) range in
      let t = one_at v.station.list at range2 in
      let stands = there_all (Stands run v.station.number) v.station.list at t.0 t.1 (k2.station).list in
      (t.0, t.1, (v.station.number, stands.place), (there_all (MayGo v.station.number homes) v.station.list at t.0 t.1 g2).going)

  pub still_retired : (run : RunId F) (homes : List ℕ) (at : ℕ) (o v : WorkerEnd L F M B C) → PollsThread readings polls homes at o v → IsWorkerOf run homes o → v.desk.retired ≡ length v.remains
  still_retired run homes at o v h k = (thread_kept readings polls run homes at o v h k).retired

module _ {L F M B C : Type 0} (readings : C → Option (List ℕ)) (polls : ℕ → Thread L F M B → Thread L F M B → Polled → Type 0) (halts : ℕ → Thread L F M B → Thread L F M B → Cause → Type 0) (ends : B → Bool) where
  pub start_halts_is : (homes : List ℕ) (at : ℕ) (why : Stop) (v m o : WorkerEnd L F M B C) (p : Polled) (ts : List ℕ) (s : StationEnd L F M B) → v ≡ m → ts ≡ p.started.items → PollsOne readings polls at p o m → StationStartsSome homes why ts v.station s → HaltsAt readings polls halts ends homes at why o (record v { station = s })
  start_halts_is homes at why v m o p ts s is same one h = inl (inr (record {
    polled = p;
    mid = v;
    polls_one = subst (PollsOne readings polls at p o) (sym is) one;
    started = subst (λ (xs : List ℕ). StationStartsSome homes why xs v.station s) same h;
    worker = refl;
  }))

-- ---- one thread after another

pub place_more : (at now : ℕ) (done : List Bool) (e : Bool) → at ≡ place_behind 0 done → now ≡ next_place at e → now ≡ place_behind 0 (done ++ e ∷ [])
place_more at now done e is next = next ∙ ap (λ n. next_place n e) is ∙ sym (behind_more 0 done e)

pub rest_more : (e : Bool) (at now n m counter count : ℕ) → now ≡ next_place at e → m + gone e ≡ n → n + counter ≡ at + count → m + (counter + 1) ≡ now + count
rest_more true at now n m counter count is less rest = omega arith
rest_more false at now n m counter count is less rest = omega arith

pub few_more : (e : Bool) (at now counter : ℕ) → now ≡ next_place at e → at ≤ counter → now ≤ counter + 1
few_more true at now counter is few = omega arith
few_more false at now counter is few = omega arith
