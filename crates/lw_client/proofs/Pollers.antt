-- How the calls of acts change which pollers are live.
use Rattle.std.proofs.Common.{◌≡◌, ℕ, ◌+◌, Bool, true, false, ap, ◌∙◌, ⊎_elim, arith}
use Rattle.std.specs.Prelude.{slice_index_or}
use Rattle.std.specs.List.{remove}
use Rattle.std.proofs.lemmas.List.Sums.{sum_by_push, sum_by-set}
use Rattle.lw_poller.specs.declared.poller.Active.{Active}
use Rattle.lw_poller.specs.declared.poller.Timed.{Timed}
use Rattle.lw_poller.specs.declared.poller.Resting.{Resting}
use Rattle.lw_poller.specs.Pollers.{Pollers, active_number, timed_number, resting_number, same, times}
use Rattle.lw_poller.specs.LocalDue.{due_at}
use Rattle.lw_poller.specs.Changes.{Stands, AddsTimed, Pauses, Resumes, Wakes, Removes, with_paused, without_active, laid_down}
use Rattle.lw_poller.proofs.Keeping.{fewer, queued}

none_timed : Timed
none_timed = record { number = 0; period = 0; due = 0 }

none_resting : Resting
none_resting = record { number = 0; period = 0 }

none_active : Active
none_active = record { number = 0; paused = false }

-- one more is live
pub times_added : (number now period : ℕ) (s t : Pollers) → AddsTimed number now period s t → (n : ℕ) → times n t ≡ times n s + same n number
times_added number now period s t a n =
    let p : Timed = record { number = number; period = period; due = due_at now period } in
    let q = queued p s.timed t.timed n a.queued in
    let other = ap (times n) a.others in
    omega arith

module _ (s : Pollers) (n : ℕ) where
  set_active : (paused : Bool) (place number : ℕ) → Stands active_number s.active place number → times n (with_paused paused place number s) ≡ times n s
  set_active paused place number st =
      let x : Active = record { number = number; paused = paused } in
      let r = sum_by-set (λ q. same n (active_number q)) s.active place x x st.0 in
      let e = ap (same n) (st.1 x) in
      omega arith

  laid : (place number : ℕ) → Stands timed_number s.timed place number → times n (laid_down place (slice_index_or s.timed place none_timed) s) ≡ times n s
  laid place number st =
      let p : Timed = slice_index_or s.timed place none_timed in
      let y : Resting = record { number = p.number; period = p.period } in
      let r = fewer timed_number s.timed place number n none_timed st in
      let a = sum_by_push (λ q. same n (resting_number q)) s.resting y in
      let e : same n p.number ≡ same n number = ap (same n) (st.1 none_timed) in
      omega arith

  woken : (place number now : ℕ) (t : Pollers) → Stands resting_number s.resting place number → Wakes place now s t → times n t ≡ times n s
  woken place number now t st w =
      let r : Resting = slice_index_or s.resting place none_resting in
      let p : Timed = record { number = r.number; period = r.period; due = due_at now r.period } in
      let x = fewer resting_number s.resting place number n none_resting st in
      let a = queued p s.timed t.timed n (w.queued none_resting) in
      let e : same n r.number ≡ same n number = ap (same n) (st.1 none_resting) in
      let other = ap (times n) w.others in
      omega arith

-- a pause and its end leave them
pub times_paused : (number : ℕ) (s t : Pollers) → Pauses number s t → (n : ℕ) → times n t ≡ times n s
times_paused number s t c n = ⊎_elim
    (λ (x : (place : ℕ) × Stands active_number s.active place number × (t ≡ with_paused true place number s)). ap (times n) x.2 ∙ set_active s n true x.0 number x.1)
    (λ c. ⊎_elim
    (λ (x : (place : ℕ) × Stands timed_number s.timed place number × ((d : Timed) → t ≡ laid_down place (slice_index_or s.timed place d) s)). ap (times n) (x.2 none_timed) ∙ laid s n x.0 number x.1)
    (λ (x : (place : ℕ) × Stands resting_number s.resting place number × (t ≡ s)). ap (times n) x.2)
    c)
    c

pub times_resumed : (number now : ℕ) (s t : Pollers) → Resumes number now s t → (n : ℕ) → times n t ≡ times n s
times_resumed number now s t c n = ⊎_elim
    (λ (x : (place : ℕ) × Stands active_number s.active place number × (t ≡ with_paused false place number s)). ap (times n) x.2 ∙ set_active s n false x.0 number x.1)
    (λ c. ⊎_elim
    (λ (x : (place : ℕ) × Stands timed_number s.timed place number × (t ≡ s)). ap (times n) x.2)
    (λ (x : (place : ℕ) × Stands resting_number s.resting place number × Wakes place now s t). woken s n x.0 number now t x.1 x.2)
    c)
    c

-- one less is live
pub times_removed : (number : ℕ) (s t : Pollers) → Removes number s t → (n : ℕ) → times n t + same n number ≡ times n s
times_removed number s t c n = ⊎_elim
    (λ (x : (place : ℕ) × Stands active_number s.active place number × (t ≡ without_active place s)).
    (let r = fewer active_number s.active x.0 number n none_active x.1 in
    let e = ap (times n) x.2 in
    omega arith))
    (λ c. ⊎_elim
    (λ (x : (place : ℕ) × Stands timed_number s.timed place number × (t ≡ record s { timed = remove s.timed place })).
    (let r = fewer timed_number s.timed x.0 number n none_timed x.1 in
    let e = ap (times n) x.2 in
    omega arith))
    (λ (x : (place : ℕ) × Stands resting_number s.resting place number × (t ≡ record s { resting = remove s.resting place })).
    (let r = fewer resting_number s.resting x.0 number n none_resting x.1 in
    let e = ap (times n) x.2 in
    omega arith))
    c)
    c
