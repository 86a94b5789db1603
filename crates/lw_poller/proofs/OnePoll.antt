-- In one poll each number is given once at most.
use Rattle.std.proofs.Common.{◌≡◌, ◌⊎◌, ℕ, ◌+◌, ◌-◌, ◌<◌, ◌≤◌, List, [], ◌∷◌, length, inl, inr, refl, sym, ap, subst, ◌∙◌, ⊎_elim, arith, length-set, All}
use Rattle.std.specs.Prelude.{⊤, slice_index_or, slice_set, Some, None, true, false}
use Rattle.std.specs.List.{sum_by, remove, insert}
use Rattle.std.proofs.lemmas.Bool.{cases_lt, cases_eq, true≢false}
use Rattle.std.proofs.lemmas.Option.{none-some, same_Some}
use Rattle.std.proofs.lemmas.List.{get_or_default, get_or_append_left, get_or-set_same, get_or-set_other}
use Rattle.std.proofs.lemmas.List.Elements.{All-push}
use Rattle.std.proofs.lemmas.List.Edits.{length-remove, length-insert, get_or-remove_below, get_or-remove_above, get_or-insert_at, get_or-insert_below, get_or-insert_above}
use Rattle.lw_poller.specs.declared.poller.Active.{Active}
use Rattle.lw_poller.specs.declared.poller.Timed.{Timed}
use Rattle.lw_poller.specs.declared.poller.Resting.{Resting}
use Rattle.lw_poller.specs.Numbers.{Has, Lacks, IsWith}
use Rattle.lw_poller.specs.Pollers.{Pollers, AreKept, active_number, timed_number, resting_number, same, times}
use Rattle.lw_poller.specs.LocalDue.{due_at, IsNextActive, IsNextTimed}
use Rattle.lw_poller.specs.Changes.{Stands, IsQueued, AddsTimed, Pauses, Resumes, Wakes, Removes, GivesActive, GivesTimed, with_active, with_paused, without_active, laid_down, less_at}
use Rattle.lw_poller.specs.OnePoll.{Call, Changes, Gives, AreCalls, IsPaused, NeverGiven, GivenOnce, all_numbers, all_but}
use Rattle.lw_poller.proofs.Counts.{counted, same_self}
use Rattle.lw_poller.proofs.Keeping.{fewer, less_below, less_above}

-- the active poller at place k, if it has the number n, had its turn, was added in this poll, or is paused and so kept from its
-- turn
abbrev Fine : ℕ → Type 0 → ℕ → ℕ → ℕ → Active → Type 0
Fine n Q turn before k p = active_number p ≡ n → (k < turn) ⊎ (before ≤ k) ⊎ (Q × (p.paused ≡ true))

-- No poller of this number is called in this poll any more. Where Q holds, nor is one that is paused, for it isn't resumed
record Done (n : ℕ) (Q : Type 0) (s : Pollers) : Type 0 where
  active : (k : ℕ) (d : Active) → k < length s.active → Fine n Q s.turn s.before k (slice_index_or s.active k d)
  timed : All (λ (p : Timed). timed_number p ≡ n → Has s.over n) s.timed
  resting : All (λ (p : Resting). resting_number p ≡ n → Q ⊎ Has s.over n) s.resting

-- it is so at another place, when as much of the poll is over
fine_at : (n : ℕ) (Q : Type 0) (turn before k turn' before' k' : ℕ) (p : Active) → (k < turn → k' < turn') → (before ≤ k → before' ≤ k')
    → Fine n Q turn before k p → Fine n Q turn' before' k' p
fine_at n Q turn before k turn' before' k' p over added fine is = ⊎_elim
    (λ (x : k < turn). inl (over x))
    (λ c. ⊎_elim (λ (x : before ≤ k). inr (inl (added x))) (λ (x : Q × (p.paused ≡ true)). inr (inr x)) c)
    (fine is)

-- what holds of all holds of all but one
all_remove : {X : Type 0} (P : X → Type 0) (xs : List X) (i : ℕ) → i < length xs → All P xs → All P (remove xs i)
all_remove P xs i within all k d short =
    let l = length-remove xs i within in
    ⊎_elim
    (λ (b : k < i). subst P (sym (get_or-remove_below xs i d k b within)) (all k d (omega arith)))
    (λ (a : i ≤ k). subst P (sym (get_or-remove_above xs i d k a within)) (all (k + 1) d (omega arith)))
    (cases_lt k i)

all_insert : {X : Type 0} (P : X → Type 0) (xs : List X) (i : ℕ) (y : X) → i ≤ length xs → All P xs → P y → All P (insert xs i y)
all_insert P xs i y within all mine k d short =
    let l = length-insert xs i y within in
    ⊎_elim
    (λ (b : k < i). subst P (sym (get_or-insert_below xs i y d k b within)) (all k d (omega arith)))
    (λ (a : i ≤ k). ⊎_elim
    (λ (h : i < k).
    (let e : k - 1 + 1 ≡ k = omega arith in
    subst (λ m. P (slice_index_or (insert xs i y) m d)) e
    (subst P (sym (get_or-insert_above xs i y d (k - 1) (omega arith) within)) (all (k - 1) d (omega arith)))))
    (λ (h : k ≤ i).
    (let e : i ≡ k = omega arith in
    subst (λ m. P (slice_index_or (insert xs i y) m d)) e (subst P (sym (get_or-insert_at xs i y d within)) mine)))
    (cases_lt i k))
    (cases_lt k i)

-- a number that is in the set stays in it
stays : (n number v w : ℕ) → IsWith number v w → Has v n → Has w n
stays n number v w more has = ⊎_elim
    (λ (e : number ≡ n). subst (Has w) e more.has)
    (λ (e : number ≡ n → ⊥). more.others n (λ q. e (sym q)) ∙ has)
    (cases_eq number n)

-- one place alone has a number that is counted once at most
pub alone : {X : Type 0} (number_of : X → ℕ) (xs : List X) (place k n : ℕ) (d : X) → Stands number_of xs place n → k < length xs → number_of (slice_index_or xs k d) ≡ n
    → sum_by (λ x. same n (number_of x)) xs ≤ 1 → k ≡ place
alone number_of xs place k n d st within is once =
    let l = length-remove xs place st.0 in
    let f = fewer number_of xs place n n d st in
    let one = same_self n n refl in
    ⊎_elim
    (λ (b : k < place).
    (let c = counted number_of (remove xs place) k n d (omega arith) (ap number_of (get_or-remove_below xs place d k b st.0) ∙ is) in absurd (omega arith)))
    (λ (a : place ≤ k). ⊎_elim
    (λ (h : place < k).
    (let e : k - 1 + 1 ≡ k = omega arith in
    let g : slice_index_or (remove xs place) (k - 1) d ≡ slice_index_or xs k d = get_or-remove_above xs place d (k - 1) (omega arith) st.0 ∙ ap (λ m. slice_index_or xs m d) e in
    let c = counted number_of (remove xs place) (k - 1) n d (omega arith) (ap number_of g ∙ is) in absurd (omega arith)))
    (λ (h : k ≤ place). omega arith)
    (cases_lt place k))
    (cases_lt k place)

-- the same where it may be paused instead
stays_or : (n number v w : ℕ) (Q : Type 0) → IsWith number v w → Q ⊎ Has v n → Q ⊎ Has w n
stays_or n number v w Q more has = ⊎_elim (λ (q : Q). inl q) (λ (x : Has v n). inr (stays n number v w more x)) has

-- a number that nobody has
none_done : (n : ℕ) (Q : Type 0) (s : Pollers) → times n s ≡ 0 → Done n Q s
none_done n Q s none = record {
  active = λ k d within is. absurd (let c = counted active_number s.active k n d within is in omega arith);
  timed = λ k d within is. absurd (let c = counted timed_number s.timed k n d within is in omega arith);
  resting = λ k d within is. absurd (let c = counted resting_number s.resting k n d within is in omega arith);
}

-- a number whose pollers are paused
paused_done : (n : ℕ) (s : Pollers) → IsPaused n s → Done n ⊤ s
paused_done n s p = record {
  active = λ k d within is. inr (inr (tt, p.active k d within is));
  timed = λ k d within is. absurd (p.timed k d within is);
  resting = λ k d within is. inl tt;
}

module _ (n : ℕ) (Q : Type 0) (s : Pollers) (h : Done n Q s) where
  queued_done : (p : Timed) (xs ys : List Timed) (over : ℕ) → IsQueued p xs ys → All (λ (x : Timed). timed_number x ≡ n → Has over n) xs → (p.number ≡ n → Has over n)
      → All (λ (x : Timed). timed_number x ≡ n → Has over n) ys
  queued_done p xs ys over q all mine =
      subst (All (λ (x : Timed). timed_number x ≡ n → Has over n)) (sym q.inserted) (all_insert (λ (x : Timed). timed_number x ≡ n → Has over n) xs q.place p q.within all mine)

  active_added : (number : ℕ) → s.before ≤ length s.active → Done n Q (with_active number s)
  active_added number before =
      let x : Active = record { number = number; paused = false } in
      record {
        active = λ k d within. ⊎_elim
            (λ (old : k < length s.active). subst (Fine n Q s.turn s.before k) (sym (get_or_append_left s.active (x ∷ []) d k old)) (h.active k d old))
            (λ (new : length s.active ≤ k) is. inr (inl (omega arith)))
            (cases_lt k (length s.active));
        timed = h.timed;
        resting = h.resting;
      }

  timed_added : (number now period : ℕ) (t : Pollers) → AddsTimed number now period s t → Done n Q t
  timed_added number now period t a = subst (Done n Q) (sym a.others) (record {
    active = h.active;
    timed = queued_done (record { number = number; period = period; due = due_at now period }) s.timed t.timed t.over a.queued
        (λ k d within is. stays n number s.over t.over a.over (h.timed k d within is)) (λ e. subst (Has t.over) e a.over.has);
    resting = λ k d within is. stays_or n number s.over t.over Q a.over (h.resting k d within is);
  })

  active_set : (paused : _) (place number : ℕ) → Stands active_number s.active place number → (number ≡ n → Q → paused ≡ true) → Done n Q (with_paused paused place number s)
  active_set paused place number st keeps =
      let y : Active = record { number = number; paused = paused } in
      let l = length-set s.active place y in
      record {
        active = λ k d within. ⊎_elim
            (λ (e : k ≡ place) is.
            (let now : slice_index_or (slice_set s.active place y) k d ≡ y = ap (λ m. slice_index_or (slice_set s.active place y) m d) e ∙ get_or-set_same s.active place y d st.0 in
            let was : active_number (slice_index_or s.active k d) ≡ number = ap (λ m. active_number (slice_index_or s.active m d)) e ∙ st.1 d in
            let mine : number ≡ n = ap active_number (sym now) ∙ is in
            ⊎_elim
            (λ (x : k < s.turn). inl x)
            (λ c. ⊎_elim
            (λ (x : s.before ≤ k). inr (inl x))
            (λ (x : Q × ((slice_index_or s.active k d).paused ≡ true)). inr (inr (x.0, ap (λ (p : Active). p.paused) now ∙ keeps mine x.0)))
            c)
            (h.active k d (omega arith) (was ∙ mine))))
            (λ (e : k ≡ place → ⊥). subst (Fine n Q s.turn s.before k) (sym (get_or-set_other s.active place k y d e)) (h.active k d (omega arith)))
            (cases_eq k place);
        timed = h.timed;
        resting = h.resting;
      }

  laid_down_done : (place : ℕ) (p : Timed) → place < length s.timed → p ≡ slice_index_or s.timed place p → Done n Q (laid_down place p s)
  laid_down_done place p within e =
      let y : Resting = record { number = p.number; period = p.period } in
      record {
        active = h.active;
        timed = all_remove (λ (x : Timed). timed_number x ≡ n → Has s.over n) s.timed place within h.timed;
        resting = All-push (λ (x : Resting). resting_number x ≡ n → Q ⊎ Has s.over n) s.resting y h.resting (λ is. inr (h.timed place p within (ap timed_number (sym e) ∙ is)));
      }

  woken : (place number now : ℕ) (t : Pollers) → Stands resting_number s.resting place number → (number ≡ n → Q → ⊥) → Wakes place now s t → Done n Q t
  woken place number now t st other w =
      let none : Resting = record { number = 0; period = 0 } in
      let p = slice_index_or s.resting place none in
      subst (Done n Q) (sym w.others) (record {
        active = h.active;
        timed = queued_done (record { number = p.number; period = p.period; due = due_at now p.period }) s.timed t.timed s.over (w.queued none) h.timed
            (λ is. ⊎_elim
            (λ (q : Q). absurd (other (sym (st.1 none) ∙ is) q))
            (λ (x : Has s.over n). x)
            (h.resting place none st.0 is));
        resting = all_remove (λ (x : Resting). resting_number x ≡ n → Q ⊎ Has s.over n) s.resting place st.0 h.resting;
      })

  active_gone : (place : ℕ) → s.turn ≤ s.before → place < length s.active → Done n Q (without_active place s)
  active_gone place order within =
      let l = length-remove s.active place within in
      let F = Fine n Q (less_at place s.turn) (less_at place s.before) in
      record {
        active = λ k d short. ⊎_elim
            (λ (b : k < place). subst (F k) (sym (get_or-remove_below s.active place d k b within))
            (fine_at n Q s.turn s.before k (less_at place s.turn) (less_at place s.before) k (slice_index_or s.active k d)
            (λ (t : k < s.turn). ⊎_elim
            (λ (y : place < s.turn). (let e = less_below place s.turn y in omega arith))
            (λ (y : s.turn ≤ place). (let e = less_above place s.turn y in omega arith))
            (cases_lt place s.turn))
            (λ (f : s.before ≤ k). (let e = less_above place s.before (omega arith) in omega arith))
            (h.active k d (omega arith))))
            (λ (a : place ≤ k). subst (F k) (sym (get_or-remove_above s.active place d k a within))
            (fine_at n Q s.turn s.before (k + 1) (less_at place s.turn) (less_at place s.before) k (slice_index_or s.active (k + 1) d)
            (λ (t : k + 1 < s.turn). (let e = less_below place s.turn (omega arith) in omega arith))
            (λ (f : s.before ≤ k + 1). ⊎_elim
            (λ (y : place < s.before). (let e = less_below place s.before y in omega arith))
            (λ (y : s.before ≤ place). (let e = less_above place s.before y in omega arith))
            (cases_lt place s.before))
            (h.active (k + 1) d (omega arith))))
            (cases_lt k place);
        timed = h.timed;
        resting = h.resting;
      }

  paused : (number : ℕ) (t : Pollers) → Pauses number s t → Done n Q t
  paused number t c = ⊎_elim
      (λ (x : (place : ℕ) × Stands active_number s.active place number × (t ≡ with_paused true place number s)). subst (Done n Q) (sym x.2) (active_set true x.0 number x.1 (λ _ _. refl)))
      (λ c. ⊎_elim
      (λ (x : (place : ℕ) × Stands timed_number s.timed place number × ((d : Timed) → t ≡ laid_down place (slice_index_or s.timed place d) s)).
      (let none : Timed = record { number = 0; period = 0; due = 0 } in
      let p = slice_index_or s.timed x.0 none in
      subst (Done n Q) (sym (x.2 none)) (laid_down_done x.0 p x.1.0 (get_or_default s.timed x.0 none p x.1.0))))
      (λ (x : (place : ℕ) × Stands resting_number s.resting place number × (t ≡ s)). subst (Done n Q) (sym x.2) h)
      c)
      c

  resumed : (number now : ℕ) (t : Pollers) → (number ≡ n → Q → ⊥) → Resumes number now s t → Done n Q t
  resumed number now t other c = ⊎_elim
      (λ (x : (place : ℕ) × Stands active_number s.active place number × (t ≡ with_paused false place number s)). subst (Done n Q) (sym x.2) (active_set false x.0 number x.1 (λ e q. absurd (other e q))))
      (λ c. ⊎_elim
      (λ (x : (place : ℕ) × Stands timed_number s.timed place number × (t ≡ s)). subst (Done n Q) (sym x.2) h)
      (λ (x : (place : ℕ) × Stands resting_number s.resting place number × Wakes place now s t). woken x.0 number now t x.1 other x.2)
      c)
      c

  removed : (number : ℕ) (t : Pollers) → s.turn ≤ s.before → Removes number s t → Done n Q t
  removed number t order c = ⊎_elim
      (λ (x : (place : ℕ) × Stands active_number s.active place number × (t ≡ without_active place s)). subst (Done n Q) (sym x.2) (active_gone x.0 order x.1.0))
      (λ c. ⊎_elim
      (λ (x : (place : ℕ) × Stands timed_number s.timed place number × (t ≡ record s { timed = remove s.timed place })).
      subst (Done n Q) (sym x.2) (record { active = h.active; timed = all_remove (λ (y : Timed). timed_number y ≡ n → Has s.over n) s.timed x.0 x.1.0 h.timed; resting = h.resting }))
      (λ (x : (place : ℕ) × Stands resting_number s.resting place number × (t ≡ record s { resting = remove s.resting place })).
      subst (Done n Q) (sym x.2) (record { active = h.active; timed = h.timed; resting = all_remove (λ (y : Resting). resting_number y ≡ n → Q ⊎ Has s.over n) s.resting x.0 x.1.0 h.resting }))
      c)
      c

  changed : (may : ℕ → Type 0) (t : Pollers) → ((k : ℕ) → may k → k ≡ n → Q → ⊥) → AreKept s → Changes may s t → Done n Q t
  changed may t other kept c = ⊎_elim
      (λ (x : (number : ℕ) × (t ≡ with_active number s)). subst (Done n Q) (sym x.1) (active_added x.0 kept.before))
      (λ c. ⊎_elim
      (λ (x : (number : ℕ) × (now : ℕ) × (period : ℕ) × AddsTimed number now period s t). timed_added x.0 x.1 x.2 t x.3)
      (λ c. ⊎_elim
      (λ (x : (number : ℕ) × Pauses number s t). paused x.0 t x.1)
      (λ c. ⊎_elim
      (λ (x : (number : ℕ) × (now : ℕ) × may number × Resumes number now s t). resumed x.0 x.1 t (other x.0 x.2) x.3)
      (λ (x : (number : ℕ) × Removes number s t). removed x.0 t kept.turn x.1)
      c)
      c)
      c)
      c

  active_given : (place number : ℕ) (t : Pollers) → IsNextActive s place → GivesActive place number s t → Done n Q t
  active_given place number t next g = subst (Done n Q) (sym g.1) (record {
    active = λ k d within. fine_at n Q s.turn s.before k (place + 1) s.before k (slice_index_or s.active k d)
        (λ (x : k < s.turn). (let a = next.after_last in omega arith)) (λ x. x) (h.active k d within);
    timed = h.timed;
    resting = h.resting;
  })

  timed_given : (place number : ℕ) (t : Pollers) → IsNextTimed s place → GivesTimed place number s t → Done n Q t
  timed_given place number t next g =
      let none : Timed = record { number = 0; period = 0; due = 0 } in
      let p = slice_index_or s.timed place none in
      subst (Done n Q) (sym g.others) (record {
        active = h.active;
        timed = queued_done (record p { due = due_at s.began p.period }) (remove s.timed place) t.timed t.over (g.queued none)
            (all_remove (λ (y : Timed). timed_number y ≡ n → Has t.over n) s.timed place next.within (λ k d within is. stays n number s.over t.over g.over (h.timed k d within is)))
            (λ is. stays n number s.over t.over g.over (h.timed place none next.within is));
        resting = λ k d within is. stays_or n number s.over t.over Q g.over (h.resting k d within is);
      })

  given : (number : ℕ) (t : Pollers) → Gives number s t → Done n Q t
  given number t g = ⊎_elim
      (λ (x : IsNextActive s g.0 × GivesActive g.0 number s t). active_given g.0 number t x.0 x.1)
      (λ (x : IsNextTimed s g.0 × GivesTimed g.0 number s t). timed_given g.0 number t x.0 x.1)
      g.1

  -- it isn't the one that is given
  not_given : (t : Pollers) → s.before ≤ length s.active → Gives n s t → ⊥
  not_given t before g = ⊎_elim
      (λ (x : IsNextActive s g.0 × GivesActive g.0 n s t).
      (let d : Active = record { number = 0; paused = false } in
      let a = x.0.after_last in
      let b = x.0.before_poll in
      ⊎_elim
      (λ (y : g.0 < s.turn). absurd (omega arith))
      (λ c. ⊎_elim
      (λ (y : s.before ≤ g.0). absurd (omega arith))
      (λ (y : Q × ((slice_index_or s.active g.0 d).paused ≡ true)). absurd (true≢false (sym y.1 ∙ x.0.awake d)))
      c)
      (h.active g.0 d (omega arith) (x.1.0 d))))
      (λ (x : IsNextTimed s g.0 × GivesTimed g.0 n s t).
      (let d : Timed = record { number = 0; period = 0; due = 0 } in
      let one = h.timed g.0 d x.0.within (x.1.is d) in
      let zero : Lacks s.over n = subst (Lacks s.over) (x.1.is d) (x.0.waits d) in
      absurd (omega arith)))
      g.1

-- the one that was given
given_done : (n : ℕ) (Q : Type 0) (s t : Pollers) → AreKept s → Gives n s t → Done n Q t
given_done n Q s t kept g = ⊎_elim
    (λ (x : IsNextActive s g.0 × GivesActive g.0 n s t).
    (let z : Active = record { number = 0; paused = false } in
    let b = x.0.before_poll in
    let w = kept.before in
    let once = kept.once n in
    let within : g.0 < length s.active = omega arith in
    let mine = counted active_number s.active g.0 n z within (x.1.0 z) in
    subst (Done n Q) (sym x.1.1) (record {
      active = λ k d short is. inl (let e = alone active_number s.active g.0 k n d (within, x.1.0) short is (omega arith) in omega arith);
      timed = λ k d short is. absurd (let c = counted timed_number s.timed k n d short is in omega arith);
      resting = λ k d short is. absurd (let c = counted resting_number s.resting k n d short is in omega arith);
    })))
    (λ (x : IsNextTimed s g.0 × GivesTimed g.0 n s t).
    (let z : Timed = record { number = 0; period = 0; due = 0 } in
    let once = kept.once n in
    let mine = counted timed_number s.timed g.0 n z x.0.within (x.1.is z) in
    subst (Done n Q) (sym x.1.others) (record {
      active = λ k d short is. absurd (let c = counted active_number s.active k n d short is in omega arith);
      timed = λ k d short is. x.1.over.has;
      resting = λ k d short is. inr x.1.over.has;
    })))
    g.1

never : (n : ℕ) (Q : Type 0) (may : ℕ → Type 0) → ((k : ℕ) → may k → k ≡ n → Q → ⊥) → (s : Pollers) (cs : List Call) → Done n Q s → AreCalls may s cs → NeverGiven n cs
never n Q may other s [] h calls = tt
never n Q may other s (c ∷ cs) h calls = ⊎_elim
    (λ (x : Changes may s c.after × (c.given ≡ None)). (
      λ e. absurd (none-some n (sym x.1 ∙ e)),
      never n Q may other c.after cs (changed n Q s h may c.after other calls.0 x.0) calls.2,
    ))
    (λ (x : (number : ℕ) × Gives number s c.after × (c.given ≡ Some number)). (
      λ e. not_given n Q s h c.after calls.0.before (subst (λ m. Gives m s c.after) (same_Some _ _ (sym x.2 ∙ e)) x.1),
      never n Q may other c.after cs (given n Q s h x.0 c.after x.1) calls.2,
    ))
    calls.1

-- a number without a poller, or whose poller was given, stays out of the poll even if it is resumed
resumed_too : (n k : ℕ) → all_numbers k → k ≡ n → ⊥ → ⊥
resumed_too n k m e q = q

pub absent : (s : Pollers) (cs : List Call) (n : ℕ) → AreCalls all_numbers s cs → times n s ≡ 0 → NeverGiven n cs
absent s cs n calls none = never n ⊥ all_numbers (resumed_too n) s cs (none_done n ⊥ s none) calls

pub not_resumed : (s : Pollers) (cs : List Call) (n : ℕ) → AreCalls (all_but n) s cs → IsPaused n s → NeverGiven n cs
not_resumed s cs n calls p = never n ⊤ (all_but n) (λ k m e _. m e) s cs (paused_done n s p) calls

pub once : (s : Pollers) (cs : List Call) → AreCalls all_numbers s cs → GivenOnce cs
once s [] calls = tt
once s (c ∷ cs) calls = (
  λ n e. ⊎_elim
      (λ (x : Changes all_numbers s c.after × (c.given ≡ None)). absurd (none-some n (sym x.1 ∙ e)))
      (λ (x : (number : ℕ) × Gives number s c.after × (c.given ≡ Some number)).
      never n ⊥ all_numbers (resumed_too n) c.after cs (given_done n ⊥ s c.after calls.0 (subst (λ m. Gives m s c.after) (same_Some _ _ (sym x.2 ∙ e)) x.1)) calls.2)
      calls.1,
  once c.after cs calls.2,
)
