-- What a pause leaves is paused.
use Rattle.std.proofs.Common.{◌≡◌, ℕ, refl, sym, ap, subst, ◌∙◌, ⊎_elim, arith, length-set}
use Rattle.std.specs.Prelude.{slice_index_or, slice_set, true}
use Rattle.std.specs.List.{remove}
use Rattle.std.proofs.lemmas.Bool.{cases_eq}
use Rattle.std.proofs.lemmas.List.{get_or-set_same, get_or-set_other}
use Rattle.lw_poller.specs.declared.poller.Active.{Active}
use Rattle.lw_poller.specs.declared.poller.Timed.{Timed}
use Rattle.lw_poller.specs.declared.poller.Resting.{Resting}
use Rattle.lw_poller.specs.Pollers.{Pollers, AreKept, active_number, timed_number, resting_number}
use Rattle.lw_poller.specs.Changes.{Stands, Pauses, with_paused, laid_down}
use Rattle.lw_poller.specs.OnePoll.{IsPaused}
use Rattle.lw_poller.proofs.Counts.{counted, same_self}
use Rattle.lw_poller.proofs.Keeping.{fewer}
use Rattle.lw_poller.proofs.OnePoll.{alone}

module _ (n : ℕ) (s : Pollers) (kept : AreKept s) where
  -- the active one at a place is paused, and no other poller has its number
  active_paused : (place : ℕ) → Stands active_number s.active place n → IsPaused n (with_paused true place n s)
  active_paused place st =
      let y : Active = record { number = n; paused = true } in
      let l = length-set s.active place y in
      let once = kept.once n in
      let mine = counted active_number s.active place n y st.0 (st.1 y) in
      record {
        active = λ k d within is. ⊎_elim
            (λ (e : k ≡ place). ap (λ (p : Active). p.paused) (ap (λ m. slice_index_or (slice_set s.active place y) m d) e ∙ get_or-set_same s.active place y d st.0))
            (λ (e : k ≡ place → ⊥).
            (let o = get_or-set_other s.active place k y d e in
            absurd (e (alone active_number s.active place k n d st (omega arith) (ap active_number (sym o) ∙ is) (omega arith)))))
            (cases_eq k place);
        timed = λ k d within is. absurd (let c = counted timed_number s.timed k n d within is in omega arith);
      }

  timed_paused : (place : ℕ) (p : Timed) → Stands timed_number s.timed place n → IsPaused n (laid_down place p s)
  timed_paused place p st =
      let once = kept.once n in
      let mine = counted timed_number s.timed place n p st.0 (st.1 p) in
      let f = fewer timed_number s.timed place n n p st in
      let one = same_self n n refl in
      record {
        active = λ k d within is. absurd (let c = counted active_number s.active k n d within is in omega arith);
        timed = λ k d within is. absurd (let c = counted timed_number (remove s.timed place) k n d within is in omega arith);
      }

  still_paused : (place : ℕ) → Stands resting_number s.resting place n → IsPaused n s
  still_paused place st =
      let none : Resting = record { number = 0; period = 0 } in
      let once = kept.once n in
      let mine = counted resting_number s.resting place n none st.0 (st.1 none) in
      record {
        active = λ k d within is. absurd (let c = counted active_number s.active k n d within is in omega arith);
        timed = λ k d within is. absurd (let c = counted timed_number s.timed k n d within is in omega arith);
      }

  pub left_paused : (t : Pollers) → Pauses n s t → IsPaused n t
  left_paused t c = ⊎_elim
      (λ (x : (place : ℕ) × Stands active_number s.active place n × (t ≡ with_paused true place n s)). subst (IsPaused n) (sym x.2) (active_paused x.0 x.1))
      (λ c. ⊎_elim
      (λ (x : (place : ℕ) × Stands timed_number s.timed place n × ((d : Timed) → t ≡ laid_down place (slice_index_or s.timed place d) s)).
      (let none : Timed = record { number = 0; period = 0; due = 0 } in
      subst (IsPaused n) (sym (x.2 none)) (timed_paused x.0 (slice_index_or s.timed x.0 none) x.1)))
      (λ (x : (place : ℕ) × Stands resting_number s.resting place n × (t ≡ s)). subst (IsPaused n) (sym x.2) (still_paused x.0 x.1))
      c)
      c
