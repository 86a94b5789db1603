-- What comes of the try to end a thread.
use Rattle.std.proofs.Common.{◌≡◌, ℕ, zero, suc, ◌+◌, ◌<◌, Bool, true, false, List, [], ◌∷◌, ◌++◌, length, refl, sym, ap, subst, ◌∙◌, arith, Ok, Err}
use Rattle.std.specs.Prelude.{IfErr, IsErrAnd, if◌then◌else◌, is_err, is_ok, remove, slice_index_or, slice_set}
use Rattle.std.specs.List.{insert}
use Rattle.std.specs.declared.result.Result.{Result}
use Rattle.lw_place.specs.PlaceWord.{most_threads}
use Rattle.lw_place.specs.PlaceSeats.{DeskEnd}
use Rattle.lw_thread.specs.declared.ending.Why.{Why}
use Rattle.lw_thread.specs.declared.ending.Why.TheVariants as why
use Rattle.lw_thread.specs.Rest.{Left}
use Rattle.lw_thread.specs.Threads.{Thread}
use Rattle.lw_thread.specs.Endings.{IsEnded, IsNotYet, MayEnd}
use Rattle.lw_station.specs.declared.stop.Stop.{Stop}
use Rattle.lw_station.specs.declared.stop.Stop.TheVariants as stop
use Rattle.lw_station.specs.Stations.{StationEnd}
use Rattle.lw_reactor.specs.Workers.{WorkerEnd}
use Rattle.lw_reactor.specs.Polling.{Ends, EndsNot, IsThere, LacksRoom, ListsEnd, ListsNotYet}

-- a stop for this reason
pub for_reason : {T : Type 0} (r : Result T Stop) (why : Stop) (P : Stop → Type 0) → IsErrAnd r (λ e. e ≡ why) → P why → IfErr r P
for_reason (Ok x) why P h p = tt
for_reason (Err e) why P h p = subst P (sym h) p

-- at a place below a list's length there is one of its elements
pub one_at : {X : Type 0} (xs : List X) (at : ℕ) → at < length xs → (x : X) × IsThere xs at x
one_at [] at l = absurd (omega arith)
one_at (x ∷ xs) zero l = (x, record { range = l; there = λ d. refl })
one_at (x ∷ xs) (suc n) l = let r = one_at xs n (omega arith) in (r.0, record { range = l; there = r.1.there })

-- who is taken out and put back at its place stands there
pub put_back : {X : Type 0} (xs : List X) (at : ℕ) (x : X) → at < length xs → insert (remove xs at) at x ≡ slice_set xs at x
put_back [] at x l = absurd (omega arith)
put_back (y ∷ ys) zero x l = refl
put_back (y ∷ ys) (suc n) x l = ap (λ zs. y ∷ zs) (put_back ys n x (omega arith))

module _ {L F M B : Type 0} (ends : B → Bool) where
  -- where the thread may end, its ring alone can keep it
  ring_alone : (t u : Thread L F M B) (w : Why) → MayEnd ends t → IsNotYet ends t u w → (seen : ℕ) × IsNotYet ends t u (why.Ring seen)
  ring_alone t u why.NotAsked m h = absurd (let wrong : true ≡ false = sym m.asked ∙ h.0 in cc)
  ring_alone t u why.Pollers m h = absurd (let none = m.no_poller in let some = h.1 in omega arith)
  ring_alone t u why.Body m h = absurd (let wrong : true ≡ false = sym m.body ∙ h.2 in cc)
  ring_alone t u (why.Ring seen) m h = (seen, h)

  pub lists_end : (at : ℕ) (v o : StationEnd L F M B) (t r : Thread L F M B) (left : Left L F B) (xs : List (Thread L F M B)) (room : ℕ) → v ≡ o → IsThere o.list at t → r ≡ slice_index_or v.list at r → xs ≡ remove v.list at → room ≡ v.room → IsEnded ends r left
      → ListsEnd ends at left o (record v { list = xs; room = room })
  lists_end at v o t r left xs room is i e out same h =
      let one : r ≡ t = e ∙ ap (λ (x : StationEnd L F M B). slice_index_or x.list at r) is ∙ i.there r in
      subst (λ (x : StationEnd L F M B). ListsEnd ends at left x (record v { list = xs; room = room })) is (record {
        thread = t;
        is_there = subst (λ (x : StationEnd L F M B). IsThere x.list at t) (sym is) i;
        ended = subst (λ (x : Thread L F M B). IsEnded ends x left) one h;
        station = λ k. record v { list = out k; room = same k };
      })

  pub lists_not : (at : ℕ) (v o : StationEnd L F M B) (t r u : Thread L F M B) (w : Why) (xs ys : List (Thread L F M B)) (room : ℕ) → v ≡ o → IsThere o.list at t → r ≡ slice_index_or v.list at r → xs ≡ remove v.list at → ys ≡ insert xs at u → MayEnd ends t → IsNotYet ends r u w
      → ListsNotYet ends at o (record v { list = ys; room = room })
  lists_not at v o t r u w xs ys room is i e out back may h =
      let one : r ≡ t = e ∙ ap (λ (x : StationEnd L F M B). slice_index_or x.list at r) is ∙ i.there r in
      let here : IsThere v.list at t = subst (λ (x : StationEnd L F M B). IsThere x.list at t) (sym is) i in
      let ring = ring_alone t u w may (subst (λ (x : Thread L F M B). IsNotYet ends x u w) one h) in
      let list : ys ≡ slice_set v.list at u = back ∙ ap (λ (zs : List (Thread L F M B)). insert zs at u) out ∙ put_back v.list at u here.range in
      subst (λ (x : StationEnd L F M B). ListsNotYet ends at x (record v { list = ys; room = room })) is (record {
        thread = t;
        after = u;
        seen = ring.0;
        is_there = here;
        tried = ring.1;
        station = λ k. record v { list = list k; room = room };
      })

  pub may_there : (at : ℕ) (s o : StationEnd L F M B) (t r : Thread L F M B) (b : Bool) → s ≡ o → IsThere o.list at t → r ≡ slice_index_or s.list at r → (b ≡ true → MayEnd ends r) × (MayEnd ends r → b ≡ true) → (b ≡ true → MayEnd ends t) × (MayEnd ends t → b ≡ true)
  may_there at s o t r b is i e h = subst (λ (x : Thread L F M B). (b ≡ true → MayEnd ends x) × (MayEnd ends x → b ≡ true)) (e ∙ ap (λ (x : StationEnd L F M B). slice_index_or x.list at r) is ∙ i.there r) h

module _ {L F M B C : Type 0} (ends : B → Bool) where
  pub lacks_is : (at : ℕ) (v o : WorkerEnd L F M B C) (t : Thread L F M B) (rs : List (Left L F B)) → v ≡ o → IsThere o.station.list at t → MayEnd ends t → length v.remains < most_threads → rs ≡ v.remains → LacksRoom ends at stop.NoMemory o (record v { remains = rs })
  lacks_is at v o t rs is i may few same = subst (λ (x : WorkerEnd L F M B C). LacksRoom ends at stop.NoMemory x (record v { remains = rs })) is (record {
    thread = t;
    is_there = subst (λ (x : WorkerEnd L F M B C). IsThere x.station.list at t) (sym is) i;
    may = may;
    few = few;
    cause = refl;
    worker = λ k. record v { remains = same k };
  })

-- the list once an insertion went well
pub put_ok : {T E X : Type 0} (r : Result T E) (b : Bool) (zs xs ys : List X) → b ≡ is_err r → b ≡ false → zs ≡ (if is_ok r then xs else ys) → zs ≡ xs
put_ok (Ok x) b zs xs ys is none h = h
put_ok (Err e) b zs xs ys is none h = absurd (let wrong : true ≡ false = sym is ∙ none in cc)

module _ {L F M B C : Type 0} (ends : B → Bool) where
  pub ended_is : (at : ℕ) (v o : WorkerEnd L F M B C) (left : Left L F B) (s : StationEnd L F M B) (rs : List (Left L F B)) (d : DeskEnd) → v ≡ o → length v.remains < most_threads → ListsEnd ends at left v.station s → rs ≡ v.remains ++ left ∷ [] → d ≡ record v.desk { retired = v.desk.retired + 1 }
      → Ends ends at o (record v { station = s; remains = rs; desk = d })
  ended_is at v o left s rs d is few h more retired = subst (λ (x : WorkerEnd L F M B C). Ends ends at x (record v { station = s; remains = rs; desk = d })) is
      (record { few = few; left = left; ended = h; worker = λ k. record v { station = s; remains = more k; desk = retired k } })

  pub not_ended_is : (at : ℕ) (v o : WorkerEnd L F M B C) (s : StationEnd L F M B) (rs : List (Left L F B)) → v ≡ o → length v.remains < most_threads → ListsNotYet ends at v.station s → rs ≡ v.remains
      → EndsNot ends at o (record v { station = s; remains = rs })
  not_ended_is at v o s rs is few h same = subst (λ (x : WorkerEnd L F M B C). EndsNot ends at x (record v { station = s; remains = rs })) is
      (record { few = few; tried = h; worker = λ k. record v { station = s; remains = same k } })

  -- the thread of the opened worker is the one there
  pub there_is : (at : ℕ) (v o : WorkerEnd L F M B C) (t : Thread L F M B) → v ≡ o → IsThere o.station.list at t → IsThere v.station.list at t
  there_is at v o t is i = subst (λ (x : WorkerEnd L F M B C). IsThere x.station.list at t) (sym is) i
