-- A set of pollers stays one, whatever the calls of acts change in it, and whichever poller is called.
use Rattle.std.proofs.Common.{◌≡◌, ℕ, ◌+◌, ◌≤◌, Bool, true, false, List, [], ◌∷◌, length, refl, sym, ap, subst, ⊎_elim, arith, length-set}
use Rattle.std.specs.Prelude.{slice_index_or}
use Rattle.std.specs.List.{remove}
use Rattle.std.proofs.lemmas.Bool.{cases_eq}
use Rattle.std.proofs.lemmas.List.{length_push}
use Rattle.std.proofs.lemmas.List.Sums.{sum_by_push, sum_by-set}
use Rattle.std.proofs.lemmas.List.Edits.{length-remove}
use Rattle.lw_poller.specs.declared.poller.Active.{Active}
use Rattle.lw_poller.specs.declared.poller.Timed.{Timed}
use Rattle.lw_poller.specs.declared.poller.Resting.{Resting}
use Rattle.lw_poller.specs.Numbers.{most_pollers}
use Rattle.lw_poller.specs.Pollers.{Pollers, AreKept, no_pollers, active_number, timed_number, resting_number, same, times}
use Rattle.lw_poller.specs.LocalDue.{begun, due_at, IsNextActive, IsNextTimed}
use Rattle.lw_poller.specs.Changes.{Stands, IsLeastFree, AddsTimed, Pauses, Resumes, Wakes, Removes, GivesActive, GivesTimed, with_active, with_paused, without_active, laid_down}
use Rattle.lw_poller.proofs.Counts.{same_self, same_other, counted}
use Rattle.lw_poller.proofs.Keeping.{fewer, queued, removed_by_due, less_order}
use Rattle.lw_poller.proofs.Queueing.{queued_by_due}
use Rattle.lw_thread.specs.PollerChanges.{IsChange, AreChanges}
use Rattle.lw_thread.proofs.Live.{live_timed}

abbrev none_timed : Timed
none_timed = record { number = 0; period = 0; due = 0 }

abbrev none_resting : Resting
none_resting = record { number = 0; period = 0 }

-- how often the numbers are counted in a set
record AreOnce (s : Pollers) : Type 0 where
  once : (k : ℕ) → times k s ≤ 1
  low : (k : ℕ) → most_pollers ≤ k → times k s ≡ 0

pub no_pollers_kept : AreKept no_pollers
no_pollers_kept = record { once = λ k. omega arith; low = λ k high. refl; by_due = λ i j d le within. absurd (omega arith); turn = omega arith; before = omega arith }

pub kept_begun : (now : ℕ) (s : Pollers) → AreKept s → AreKept (begun now s)
kept_begun now s h = record { once = h.once; low = h.low; by_due = h.by_due; turn = omega arith; before = omega arith }

module _ (s : Pollers) (h : AreKept s) where
  one_more : (t : Pollers) (number : ℕ) → IsLeastFree s number → ((k : ℕ) → times k t ≡ times k s + same k number) → AreOnce t
  one_more t number f count = record {
    once = λ k. ⊎_elim
        (λ (e : number ≡ k). (let c = count k in let o = same_self k number e in let z : times k s ≡ 0 = subst (λ n. times n s ≡ 0) e f.free in omega arith))
        (λ (e : number ≡ k → ⊥). (let c = count k in let o = same_other k number e in let b = h.once k in omega arith))
        (cases_eq number k);
    low = λ k high.
        (let below = f.below in
        let c = count k in
        let o = same_other k number (λ (e : number ≡ k). absurd (omega arith)) in
        let z = h.low k high in
        omega arith);
  }

  no_more : (t : Pollers) → ((k : ℕ) → times k t ≤ times k s) → AreOnce t
  no_more t count = record {
    once = λ k. (let c = count k in let b = h.once k in omega arith);
    low = λ k high. (let c = count k in let z = h.low k high in omega arith);
  }

  active_added : (number : ℕ) → IsLeastFree s number → AreKept (with_active number s)
  active_added number f =
      let x : Active = record { number = number; paused = false } in
      let longer = length_push s.active x in
      let b = h.before in
      let o = one_more (with_active number s) number f (λ k. (let p = sum_by_push (λ q. same k (active_number q)) s.active x in omega arith)) in
      record { once = o.once; low = o.low; by_due = h.by_due; turn = h.turn; before = omega arith }

  timed_added : (number now period : ℕ) (t : Pollers) → IsLeastFree s number → AddsTimed number now period s t → AreKept t
  timed_added number now period t f a =
      let p : Timed = record { number = number; period = period; due = due_at now period } in
      let u : Pollers = record s { timed = t.timed; over = t.over } in
      let o = one_more u number f (λ k. (let q = queued p s.timed t.timed k a.queued in omega arith)) in
      subst AreKept (sym a.others) (record { once = o.once; low = o.low; by_due = queued_by_due p s.timed t.timed h.by_due a.queued; turn = h.turn; before = h.before })

  active_set : (paused : Bool) (place number : ℕ) → Stands active_number s.active place number → AreKept (with_paused paused place number s)
  active_set paused place number st =
      let x : Active = record { number = number; paused = paused } in
      let longer = length-set s.active place x in
      let b = h.before in
      let o = no_more (with_paused paused place number s) (λ k.
      (let r = sum_by-set (λ q. same k (active_number q)) s.active place x x st.0 in
      let e = ap (same k) (st.1 x) in
      omega arith)) in
      record { once = o.once; low = o.low; by_due = h.by_due; turn = h.turn; before = omega arith }

  timed_laid : (place number : ℕ) → Stands timed_number s.timed place number → AreKept (laid_down place (slice_index_or s.timed place none_timed) s)
  timed_laid place number st =
      let p : Timed = slice_index_or s.timed place none_timed in
      let y : Resting = record { number = p.number; period = p.period } in
      let o = no_more (laid_down place p s) (λ k.
      (let r = fewer timed_number s.timed place number k none_timed st in
      let a = sum_by_push (λ q. same k (resting_number q)) s.resting y in
      let e : same k p.number ≡ same k number = ap (same k) (st.1 none_timed) in
      omega arith)) in
      record { once = o.once; low = o.low; by_due = removed_by_due s.timed place st.0 h.by_due; turn = h.turn; before = h.before }

  timed_woken : (place number now : ℕ) (t : Pollers) → Stands resting_number s.resting place number → Wakes place now s t → AreKept t
  timed_woken place number now t st w =
      let r : Resting = slice_index_or s.resting place none_resting in
      let p : Timed = record { number = r.number; period = r.period; due = due_at now r.period } in
      let u : Pollers = record s { timed = t.timed; resting = remove s.resting place } in
      let o = no_more u (λ k.
      (let x = fewer resting_number s.resting place number k none_resting st in
      let a = queued p s.timed t.timed k (w.queued none_resting) in
      let e : same k r.number ≡ same k number = ap (same k) (st.1 none_resting) in
      omega arith)) in
      subst AreKept (sym w.others) (record { once = o.once; low = o.low; by_due = queued_by_due p s.timed t.timed h.by_due (w.queued none_resting); turn = h.turn; before = h.before })

  active_gone : (place number : ℕ) → Stands active_number s.active place number → AreKept (without_active place s)
  active_gone place number st =
      let d : Active = record { number = 0; paused = false } in
      let l = length-remove s.active place st.0 in
      let order = less_order place s.turn s.before (length s.active) h.turn h.before st.0 in
      let short = order.1 in
      let o = no_more (without_active place s) (λ k. (let r = fewer active_number s.active place number k d st in omega arith)) in
      record { once = o.once; low = o.low; by_due = h.by_due; turn = order.0; before = omega arith }

  timed_gone : (place number : ℕ) → Stands timed_number s.timed place number → AreKept (record s { timed = remove s.timed place })
  timed_gone place number st =
      let o = no_more (record s { timed = remove s.timed place }) (λ k. (let r = fewer timed_number s.timed place number k none_timed st in omega arith)) in
      record { once = o.once; low = o.low; by_due = removed_by_due s.timed place st.0 h.by_due; turn = h.turn; before = h.before }

  resting_gone : (place number : ℕ) → Stands resting_number s.resting place number → AreKept (record s { resting = remove s.resting place })
  resting_gone place number st =
      let o = no_more (record s { resting = remove s.resting place }) (λ k. (let r = fewer resting_number s.resting place number k none_resting st in omega arith)) in
      record { once = o.once; low = o.low; by_due = h.by_due; turn = h.turn; before = h.before }

  paused : (number : ℕ) (t : Pollers) → Pauses number s t → AreKept t
  paused number t c = ⊎_elim
      (λ (x : (place : ℕ) × Stands active_number s.active place number × (t ≡ with_paused true place number s)). subst AreKept (sym x.2) (active_set true x.0 number x.1))
      (λ c. ⊎_elim
      (λ (x : (place : ℕ) × Stands timed_number s.timed place number × ((d : Timed) → t ≡ laid_down place (slice_index_or s.timed place d) s)). subst AreKept (sym (x.2 none_timed)) (timed_laid x.0 number x.1))
      (λ (x : (place : ℕ) × Stands resting_number s.resting place number × (t ≡ s)). subst AreKept (sym x.2) h)
      c)
      c

  resumed : (number now : ℕ) (t : Pollers) → Resumes number now s t → AreKept t
  resumed number now t c = ⊎_elim
      (λ (x : (place : ℕ) × Stands active_number s.active place number × (t ≡ with_paused false place number s)). subst AreKept (sym x.2) (active_set false x.0 number x.1))
      (λ c. ⊎_elim
      (λ (x : (place : ℕ) × Stands timed_number s.timed place number × (t ≡ s)). subst AreKept (sym x.2) h)
      (λ (x : (place : ℕ) × Stands resting_number s.resting place number × Wakes place now s t). timed_woken x.0 number now t x.1 x.2)
      c)
      c

  removed : (number : ℕ) (t : Pollers) → Removes number s t → AreKept t
  removed number t c = ⊎_elim
      (λ (x : (place : ℕ) × Stands active_number s.active place number × (t ≡ without_active place s)). subst AreKept (sym x.2) (active_gone x.0 number x.1))
      (λ c. ⊎_elim
      (λ (x : (place : ℕ) × Stands timed_number s.timed place number × (t ≡ record s { timed = remove s.timed place })). subst AreKept (sym x.2) (timed_gone x.0 number x.1))
      (λ (x : (place : ℕ) × Stands resting_number s.resting place number × (t ≡ record s { resting = remove s.resting place })). subst AreKept (sym x.2) (resting_gone x.0 number x.1))
      c)
      c

  pub kept_change : (t : Pollers) → IsChange s t → AreKept t
  kept_change t c = ⊎_elim
      (λ (x : (number : ℕ) × IsLeastFree s number × (t ≡ with_active number s)). subst AreKept (sym x.2) (active_added x.0 x.1))
      (λ c. ⊎_elim
      (λ (x : (number : ℕ) × IsLeastFree s number × (now : ℕ) × (period : ℕ) × AddsTimed number now period s t). timed_added x.0 x.2 x.3 t x.1 x.4)
      (λ c. ⊎_elim
      (λ (x : (number : ℕ) × Pauses number s t). paused x.0 t x.1)
      (λ c. ⊎_elim
      (λ (x : (number : ℕ) × (now : ℕ) × Resumes number now s t). resumed x.0 x.1 t x.2)
      (λ (x : (number : ℕ) × Removes number s t). removed x.0 t x.1)
      c)
      c)
      c)
      c

  -- the next one is given
  pub kept_active : (place number : ℕ) (t : Pollers) → IsNextActive s place → GivesActive place number s t → AreKept t
  kept_active place number t next gives =
      let before = next.before_poll in
      subst AreKept (sym gives.1) (record { once = h.once; low = h.low; by_due = h.by_due; turn = omega arith; before = h.before })

  pub kept_timed : (place number : ℕ) (t : Pollers) → IsNextTimed s place → GivesTimed place number s t → AreKept t
  kept_timed place number t next gives =
      let p : Timed = slice_index_or s.timed place none_timed in
      let same_counts = live_timed place number s t next.within gives in
      let others : t ≡ record s { timed = t.timed; over = t.over } = gives.others in
      let by_due = queued_by_due (record p { due = due_at s.began p.period }) (remove s.timed place) t.timed (removed_by_due s.timed place next.within h.by_due) (gives.queued none_timed) in
      let o = no_more t (λ k. (let c = ap (λ (f : ℕ → ℕ). f k) same_counts in omega arith)) in
      let turn : t.turn ≤ t.before = subst (λ (x : Pollers). x.turn ≤ x.before) (sym others) h.turn in
      let before : t.before ≤ length t.active = subst (λ (x : Pollers). x.before ≤ length x.active) (sym others) h.before in
      record { once = o.once; low = o.low; by_due = by_due; turn = turn; before = before }

  -- and is live
  pub active_is_live : (place number : ℕ) (t : Pollers) → IsNextActive s place → GivesActive place number s t → times number t ≡ 1
  active_is_live place number t next gives =
      let d : Active = record { number = 0; paused = false } in
      let low = next.before_poll in
      let long = h.before in
      let mine = counted active_number s.active place number d (omega arith) (gives.0 d) in
      let once = h.once number in
      let same_count = ap (times number) gives.1 in
      omega arith

  pub timed_is_live : (place number : ℕ) (t : Pollers) → IsNextTimed s place → GivesTimed place number s t → times number t ≡ 1
  timed_is_live place number t next gives =
      let mine = counted timed_number s.timed place number none_timed next.within (gives.is none_timed) in
      let once = h.once number in
      let same_count = ap (λ (f : ℕ → ℕ). f number) (live_timed place number s t next.within gives) in
      omega arith

pub kept_changes : (us : List Pollers) (s t : Pollers) → AreKept s → AreChanges s us t → AreKept t
kept_changes [] s t h c = subst AreKept (sym c) h
kept_changes (u ∷ us) s t h c = kept_changes us u t (kept_change s h u c.0) c.1
