-- What the poll of a thread of the list leaves of the list.
use Rattle.std.proofs.Common.{◌≡◌, ℕ, ◌<◌, List, length, Bool, Option, true, false, refl, sym, ap, subst, ◌∙◌}
use Rattle.std.specs.Prelude.{Any, slice_index_or, slice_set}
use Rattle.std.proofs.lemmas.List.Quantifiers.{any-set}
use Rattle.lw_thread.specs.declared.stop.Polled.{Polled}
use Rattle.lw_thread.specs.declared.stop.Stop.{Stop as Cause}
use Rattle.lw_thread.specs.Threads.{Thread}
use Rattle.lw_station.specs.declared.stop.Stop.{Stop}
use Rattle.lw_station.specs.declared.stop.Stop.TheVariants as stop
use Rattle.lw_station.specs.Stations.{StationEnd}
use Rattle.lw_station.specs.Stopping.{ThreadIsSpent}
use Rattle.lw_reactor.specs.Workers.{WorkerEnd}
use Rattle.lw_reactor.specs.Stopping.{IsShown, ThreadStops}
use Rattle.lw_reactor.specs.Polling.{IsHalted, IsPolled, IsThere, ListHalts, ListPolls, PollHalts, PollsOne}

module _ {L F M B : Type 0} where
  -- the thread at a place of a list shows it
  pub thread_shown : (s : StationEnd L F M B) (at : ℕ) (u : Thread L F M B) (xs : List (Thread L F M B)) (why : Stop) → at < length xs → s.list ≡ slice_set xs at u → ThreadStops u why → IsShown s why
  thread_shown s at u xs stop.NoMemory l e h = tt
  thread_shown s at u xs (stop.Spent true from to count) l e h = absurd h
  thread_shown s at u xs (stop.Spent false from to count) l e h = subst (Any (ThreadIsSpent from to count)) (sym e) (any-set (ThreadIsSpent from to count) xs at u l h)

  -- the thread that was read at a place is the one there
  pub read_there : (at : ℕ) (v o : StationEnd L F M B) (t r : Thread L F M B) → v ≡ o → IsThere o.list at t → r ≡ slice_index_or v.list at r → r ≡ t
  read_there at v o t r is i e = e ∙ ap (λ (x : StationEnd L F M B). slice_index_or x.list at r) is ∙ i.there r

module _ {L F M B C : Type 0} (readings : C → Option (List ℕ)) (polls : ℕ → Thread L F M B → Thread L F M B → Polled → Type 0) where
  pub list_polls : (at : ℕ) (p : Polled) (v o : StationEnd L F M B) (t r u : Thread L F M B) (c d : C) (n m : ℕ) (xs : List (Thread L F M B)) (room : ℕ) → v ≡ o → IsThere o.list at t → r ≡ slice_index_or v.list at r → xs ≡ slice_set v.list at u → room ≡ v.room
      → IsPolled readings polls p r u c d n m → ListPolls readings polls at p o (record v { list = xs; room = room }) c d n m
  list_polls at p v o t r u c d n m xs room is i e set same h = subst (λ (x : StationEnd L F M B). ListPolls readings polls at p x (record v { list = xs; room = room }) c d n m) is (record {
    thread = t;
    polled_thread = u;
    is_there = subst (λ (x : StationEnd L F M B). IsThere x.list at t) (sym is) i;
    is_polled = subst (λ (x : Thread L F M B). IsPolled readings polls p x u c d n m) (read_there at v o t r is i e) h;
    station = λ k. record v { list = set k; room = same k };
  })

  pub polls_one_is : (at : ℕ) (p : Polled) (v o : WorkerEnd L F M B C) (s : StationEnd L F M B) (d : C) (m : ℕ) → v ≡ o → ListPolls readings polls at p v.station s v.clock d v.now m → PollsOne readings polls at p o (record v { station = s; clock = d; now = m })
  polls_one_is at p v o s d m is h = subst (λ (x : WorkerEnd L F M B C). PollsOne readings polls at p x (record v { station = s; clock = d; now = m })) is (record { polls_list = h; worker = refl })

module _ {L F M B C : Type 0} (readings : C → Option (List ℕ)) (polls : ℕ → Thread L F M B → Thread L F M B → Polled → Type 0) (halts : ℕ → Thread L F M B → Thread L F M B → Cause → Type 0) (ends : B → Bool) where
  pub list_halts : (at : ℕ) (why : Stop) (v o : StationEnd L F M B) (t r u : Thread L F M B) (n : ℕ) (xs : List (Thread L F M B)) (room : ℕ) → v ≡ o → IsThere o.list at t → r ≡ slice_index_or v.list at r → xs ≡ slice_set v.list at u → room ≡ v.room
      → IsHalted readings polls halts ends why r u n → ListHalts readings polls halts ends at why o (record v { list = xs; room = room }) n
  list_halts at why v o t r u n xs room is i e set same h = subst (λ (x : StationEnd L F M B). ListHalts readings polls halts ends at why x (record v { list = xs; room = room }) n) is (record {
    thread = t;
    halted_thread = u;
    is_there = subst (λ (x : StationEnd L F M B). IsThere x.list at t) (sym is) i;
    is_halted = subst (λ (x : Thread L F M B). IsHalted readings polls halts ends why x u n) (read_there at v o t r is i e) h;
    station = λ k. record v { list = set k; room = same k };
  })

  pub poll_halts_is : (at : ℕ) (why : Stop) (v o : WorkerEnd L F M B C) (s : StationEnd L F M B) (d : C) (m : ℕ) → v ≡ o → d ≡ v.clock → m ≡ v.now → ListHalts readings polls halts ends at why v.station s v.now → PollHalts readings polls halts ends at why o (record v { station = s; clock = d; now = m })
  poll_halts_is at why v o s d m is clock now h = subst (λ (x : WorkerEnd L F M B C). PollHalts readings polls halts ends at why x (record v { station = s; clock = d; now = m })) is (record { halts_list = h; worker = λ k. record v { station = s; clock = clock k; now = now k } })

module _ {L F M B : Type 0} where
  -- so it is with the list in which the thread was put back
  pub shown_at : (v o : StationEnd L F M B) (at : ℕ) (t u : Thread L F M B) (xs : List (Thread L F M B)) (room : ℕ) (why : Stop) → v ≡ o → IsThere o.list at t → xs ≡ slice_set v.list at u → ThreadStops u why → IsShown (record v { list = xs; room = room }) why
  shown_at v o at t u xs room why is i e h =
      let range : at < length v.list = subst (λ (x : StationEnd L F M B). at < length x.list) (sym is) i.range in
      thread_shown (record v { list = xs; room = room }) at u v.list why range e h
