-- Each change keeps what is true of every set of pollers.
use Rattle.std.proofs.Common.{◌≡◌, ◌≢◌, ℕ, ◌+◌, ◌-◌, ◌^◌, ◌<◌, ◌≤◌, Bool, false, List, [], ◌∷◌, ◌++◌, length, cond, refl, sym, ap, subst, ◌∙◌, ⊎_elim, arith, length-set, All}
use Rattle.std.specs.Prelude.{slice_index_or}
use Rattle.std.specs.List.{sum_by, remove}
use Rattle.std.specs.List.Sorted.{IsNonDecreasingBy}
use Rattle.std.proofs.lemmas.Bool.{cases_lt, lt-ltb, le-ltb}
use Rattle.std.proofs.lemmas.List.{length_push, get_or_default}
use Rattle.std.proofs.lemmas.List.Sums.{sum_by_push, sum_by-set, sum_by-remove, sum_by-insert}
use Rattle.std.proofs.lemmas.List.Edits.{length-remove, get_or-remove_below, get_or-remove_above}
use Rattle.std.proofs.lemmas.Nat.Bits.{bit_at_above, bit_at-lt, bit_at-zero}
use Rattle.lw_poller.specs.declared.poller.Active.{Active}
use Rattle.lw_poller.specs.declared.poller.Timed.{Timed}
use Rattle.lw_poller.specs.declared.poller.Resting.{Resting}
use Rattle.lw_poller.specs.Numbers.{most_pollers, Lacks, IsWith, IsWithout}
use Rattle.lw_poller.specs.Pollers.{Pollers, AreKept, AreNumbered, no_pollers, active_number, timed_number, resting_number, due_of, same, times}
use Rattle.lw_poller.specs.LocalDue.{begun}
use Rattle.lw_poller.specs.Changes.{Stands, IsQueued, with_active, with_paused, less_at}
use Rattle.lw_poller.proofs.Counts.{one_more, one_less, counted, uncounted, counted_below}

-- what the type keeps, as callers see it
pub kept : (live : ℕ) (s : Pollers) → AreNumbered live s → AreKept s
kept live s h = record {
  once = λ k. (let n = h.numbers k in let b = bit_at-lt live k in omega arith);
  low = λ k high. h.numbers k ∙ bit_at_above live 64 k h.few high;
  by_due = h.by_due;
  turn = h.turn;
  before = h.before;
}

pub none_kept : AreNumbered 0 no_pollers
none_kept = record {
  numbers = λ k. sym (bit_at-zero k);
  few = omega arith;
  by_due = λ i j d le within. absurd (omega arith);
  turn = omega arith;
  before = omega arith;
}

pub begun_kept : (live now : ℕ) (s : Pollers) → AreNumbered live s → AreNumbered live (begun now s)
begun_kept live now s h = record { numbers = h.numbers; few = h.few; by_due = h.by_due; turn = omega arith; before = omega arith }

-- a poller that stands in one of the lists has a number below 64
pub timed_low : (live : ℕ) (s : Pollers) → AreNumbered live s → All (λ (p : Timed). p.number < most_pollers) s.timed
timed_low live s h place d within =
    let k : ℕ = timed_number (slice_index_or s.timed place d) in
    let c = counted timed_number s.timed place k d within refl in
    counted_below live k (times k s) h.few (h.numbers k) (omega arith)

-- the element at a place has the number that is counted there
at : {X : Type 0} (number_of : X → ℕ) (xs : List X) (place number k : ℕ) (d : X) → Stands number_of xs place number
    → same k (number_of (slice_index_or xs place d)) ≡ same k number
at number_of xs place number k d st = ap (same k) (st.1 d)

-- a list from which one was taken
pub fewer : {X : Type 0} (number_of : X → ℕ) (xs : List X) (place number k : ℕ) (d : X) → Stands number_of xs place number
    → sum_by (λ x. same k (number_of x)) (remove xs place) + same k number ≡ sum_by (λ x. same k (number_of x)) xs
fewer number_of xs place number k d st =
    let r = sum_by-remove (λ x. same k (number_of x)) xs place d st.0 in
    let e = at number_of xs place number k d st in
    omega arith

-- a list into which one was queued
pub queued : (p : Timed) (xs ys : List Timed) (k : ℕ) → IsQueued p xs ys
    → sum_by (λ x. same k (timed_number x)) ys ≡ sum_by (λ x. same k (timed_number x)) xs + same k p.number
queued p xs ys k q = ap (sum_by (λ x. same k (timed_number x))) q.inserted ∙ sum_by-insert (λ x. same k (timed_number x)) xs q.place p

-- they stand by due time still, once one is taken
pub removed_by_due : (xs : List Timed) (place : ℕ) → place < length xs → IsNonDecreasingBy due_of xs → IsNonDecreasingBy due_of (remove xs place)
removed_by_due xs place within h i j d le short =
    let l = length-remove xs place within in
    ⊎_elim
    (λ (jl : j < place).
    (let a = ap due_of (get_or-remove_below xs place d i (omega arith) within) in
    let b = ap due_of (get_or-remove_below xs place d j jl within) in
    let g = h i j d le (omega arith) in
    omega arith))
    (λ (jh : place ≤ j).
    (let b = ap due_of (get_or-remove_above xs place d j jh within) in
    ⊎_elim
    (λ (il : i < place). (let a = ap due_of (get_or-remove_below xs place d i il within) in let g = h i (j + 1) d (omega arith) (omega arith) in omega arith))
    (λ (ih : place ≤ i). (let a = ap due_of (get_or-remove_above xs place d i ih within) in let g = h (i + 1) (j + 1) d (omega arith) (omega arith) in omega arith))
    (cases_lt i place)))
    (cases_lt j place)

-- the numbers of a set whose active pollers and whose poll are left alone
module _ (live : ℕ) (s : Pollers) (h : AreNumbered live s) where
  pub active_added : (live' number : ℕ) → live' < 2 ^ 64 → Lacks live number → IsWith number live live' → AreNumbered live' (with_active number s)
  active_added live' number few free w =
      let x : Active = record { number = number; paused = false } in
      let longer = length_push s.active x in
      let b = h.before in
      record {
        numbers = one_more live live' number (λ k. times k s) (λ k. times k (with_active number s)) h.numbers free w
            (λ k. (let p = sum_by_push (λ q. same k (active_number q)) s.active x in omega arith));
        few = few;
        by_due = h.by_due;
        turn = h.turn;
        before = omega arith;
      }

  pub timed_added : (live' over : ℕ) (p : Timed) (ts : List Timed) → live' < 2 ^ 64 → Lacks live p.number → IsWith p.number live live' → IsQueued p s.timed ts
      → IsNonDecreasingBy due_of ts → AreNumbered live' (record s { timed = ts; over = over })
  timed_added live' over p ts few free w q by_due = record {
    numbers = one_more live live' p.number (λ k. times k s) (λ k. times k (record s { timed = ts; over = over })) h.numbers free w
        (λ k. (let r = queued p s.timed ts k q in omega arith));
    few = few;
    by_due = by_due;
    turn = h.turn;
    before = h.before;
  }

  pub active_set : (paused : Bool) (place number : ℕ) → Stands active_number s.active place number → AreNumbered live (with_paused paused place number s)
  active_set paused place number st =
      let x : Active = record { number = number; paused = paused } in
      let longer = length-set s.active place x in
      let b = h.before in
      record {
        numbers = λ k.
            (let r = sum_by-set (λ q. same k (active_number q)) s.active place x x st.0 in
            let e = at active_number s.active place number k x st in
            let n = h.numbers k in
            omega arith);
        few = h.few;
        by_due = h.by_due;
        turn = h.turn;
        before = omega arith;
      }

  pub timed_paused : (place : ℕ) (p : Timed) (y : Resting) → Stands timed_number s.timed place p.number → y.number ≡ p.number
      → AreNumbered live (record s { timed = remove s.timed place; resting = s.resting ++ y ∷ [] })
  timed_paused place p y st is = record {
    numbers = λ k.
        (let r = fewer timed_number s.timed place p.number k p st in
        let a = sum_by_push (λ q. same k (resting_number q)) s.resting y in
        let e = ap (same k) is in
        let n = h.numbers k in
        omega arith);
    few = h.few;
    by_due = removed_by_due s.timed place st.0 h.by_due;
    turn = h.turn;
    before = h.before;
  }

  pub timed_woken : (place : ℕ) (y : Resting) (p : Timed) (ts : List Timed) → Stands resting_number s.resting place p.number → IsQueued p s.timed ts
      → IsNonDecreasingBy due_of ts → AreNumbered live (record s { timed = ts; resting = remove s.resting place })
  timed_woken place y p ts st q by_due = record {
    numbers = λ k.
        (let r = fewer resting_number s.resting place p.number k y st in
        let a = queued p s.timed ts k q in
        let n = h.numbers k in
        omega arith);
    few = h.few;
    by_due = by_due;
    turn = h.turn;
    before = h.before;
  }

  pub timed_given : (place over : ℕ) (p y : Timed) (ts : List Timed) → Stands timed_number s.timed place p.number → y.number ≡ p.number
      → IsQueued y (remove s.timed place) ts → IsNonDecreasingBy due_of ts → AreNumbered live (record s { timed = ts; over = over })
  timed_given place over p y ts st is q by_due = record {
    numbers = λ k.
        (let r = fewer timed_number s.timed place p.number k p st in
        let a = queued y (remove s.timed place) ts k q in
        let e = ap (same k) is in
        let n = h.numbers k in
        omega arith);
    few = h.few;
    by_due = by_due;
    turn = h.turn;
    before = h.before;
  }

  pub active_gone : (live' place number : ℕ) (d : Active) (turn before : ℕ) → live' < 2 ^ 64 → IsWithout number live live' → Stands active_number s.active place number
      → turn ≤ before → before + 1 ≤ length s.active → AreNumbered live' (record s { active = remove s.active place; turn = turn; before = before })
  active_gone live' place number d turn before few w st order within =
      let l = length-remove s.active place st.0 in
      record {
        numbers = one_less live live' number (λ k. times k s) (λ k. times k (record s { active = remove s.active place; turn = turn; before = before })) h.few few h.numbers w
            (λ k. (let r = fewer active_number s.active place number k d st in omega arith));
        few = few;
        by_due = h.by_due;
        turn = order;
        before = omega arith;
      }

  pub timed_gone : (live' place number : ℕ) (d : Timed) → live' < 2 ^ 64 → IsWithout number live live' → Stands timed_number s.timed place number
      → AreNumbered live' (record s { timed = remove s.timed place })
  timed_gone live' place number d few w st = record {
    numbers = one_less live live' number (λ k. times k s) (λ k. times k (record s { timed = remove s.timed place })) h.few few h.numbers w
        (λ k. (let r = fewer timed_number s.timed place number k d st in omega arith));
    few = few;
    by_due = removed_by_due s.timed place st.0 h.by_due;
    turn = h.turn;
    before = h.before;
  }

  pub resting_gone : (live' place number : ℕ) (d : Resting) → live' < 2 ^ 64 → IsWithout number live live' → Stands resting_number s.resting place number
      → AreNumbered live' (record s { resting = remove s.resting place })
  resting_gone live' place number d few w st = record {
    numbers = one_less live live' number (λ k. times k s) (λ k. times k (record s { resting = remove s.resting place })) h.few few h.numbers w
        (λ k. (let r = fewer resting_number s.resting place number k d st in omega arith));
    few = few;
    by_due = h.by_due;
    turn = h.turn;
    before = h.before;
  }

  -- a poller that stands in one of the lists has a number below 64
  pub active_low : (place number : ℕ) (d : Active) → Stands active_number s.active place number → number < most_pollers
  active_low place number d st =
      let c = counted active_number s.active place number d st.0 (st.1 d) in
      counted_below live number (times number s) h.few (h.numbers number) (omega arith)

  pub timed_low_at : (place number : ℕ) (d : Timed) → Stands timed_number s.timed place number → number < most_pollers
  timed_low_at place number d st =
      let c = counted timed_number s.timed place number d st.0 (st.1 d) in
      counted_below live number (times number s) h.few (h.numbers number) (omega arith)

  pub resting_low : (place number : ℕ) (d : Resting) → Stands resting_number s.resting place number → number < most_pollers
  resting_low place number d st =
      let c = counted resting_number s.resting place number d st.0 (st.1 d) in
      counted_below live number (times number s) h.few (h.numbers number) (omega arith)

-- what was read at a place stands there
pub reads : {X : Type 0} (number_of : X → ℕ) (xs : List X) (place : ℕ) (x : X) → place < length xs → x ≡ slice_index_or xs place x
    → Stands number_of xs place (number_of x)
reads number_of xs place x within e = (within, λ d. ap number_of (get_or_default xs place d x within ∙ sym e))

-- the number of which nobody is found in any list
pub nobody : (s : Pollers) (number : ℕ) → All (λ (p : Active). p.number ≢ number) s.active → All (λ (p : Timed). p.number ≢ number) s.timed
    → All (λ (p : Resting). p.number ≢ number) s.resting → times number s ≡ 0
nobody s number a t r =
    let u = uncounted active_number s.active number a in
    let v = uncounted timed_number s.timed number t in
    let w = uncounted resting_number s.resting number r in
    omega arith

-- the two places in the list of active pollers, once the one at a place is gone
pub less_below : (place many : ℕ) → place < many → less_at place many ≡ many - 1
less_below place many l = ap (λ b. cond b (many - 1) many) (lt-ltb place many l)

pub less_above : (place many : ℕ) → many ≤ place → less_at place many ≡ many
less_above place many l = ap (λ b. cond b (many - 1) many) (le-ltb place many l)

pub less_order : (place turn before long : ℕ) → turn ≤ before → before ≤ long → place < long → (less_at place turn ≤ less_at place before) × (less_at place before + 1 ≤ long)
less_order place turn before long tb bl within = ⊎_elim
    (λ (b : place < before).
    (let eb = less_below place before b in
    ⊎_elim
    (λ (t : place < turn). (let et = less_below place turn t in (omega arith, omega arith)))
    (λ (t : turn ≤ place). (let et = less_above place turn t in (omega arith, omega arith)))
    (cases_lt place turn)))
    (λ (b : before ≤ place). (let eb = less_above place before b in let et = less_above place turn (omega arith) in (omega arith, omega arith)))
    (cases_lt place before)

-- the same lists under other names
pub lists : (live : ℕ) (s : Pollers) (xs : List Active) (ts : List Timed) (rs : List Resting) → xs ≡ s.active → ts ≡ s.timed → rs ≡ s.resting
    → AreNumbered live s → AreNumbered live (record s { active = xs; timed = ts; resting = rs })
lists live s xs ts rs a t r h =
    subst (λ (x : List Active). AreNumbered live (record s { active = x; timed = ts; resting = rs })) (sym a)
    (subst (λ (x : List Timed). AreNumbered live (record s { timed = x; resting = rs })) (sym t)
    (subst (λ (x : List Resting). AreNumbered live (record s { resting = x })) (sym r) h))
