-- Each kind of step keeps the rule of the latch.
use Rattle.std.proofs.Common.{◌≡◌, ◌≢◌, ℕ, ◌+◌, ◌*◌, ◌/◌, ◌%◌, ◌<◌, ◌≤◌, eqb, List, [], ◌∷◌, ◌++◌, set, refl, sym, ap, ◌∙◌, subst, ⊎_elim, arith, eq-eqb, ne_eqb}
use Rattle.std.specs.Prelude.{slice_index}
use mathlib.Core.Option.{none, some, some-ne-none}
use mathlib.Core.Logic.{dite}
use native.Mathlib.Decide.{ℕ_discrete}
use lib.ListN.{get_elem?}
use prog.Atomic.{either}
use Rattle.atomic_table.specs.Table.{State, keeps, step, stepped, opening, Allows, Splits, Joins}
use Rattle.atomic_table.proofs.Lists.{at_set, at_snoc}
use Rattle.lw_latch.specs.declared.ring_view.RingView.{RingView}
use Rattle.lw_base.specs.Totals.{total}
use Rattle.lw_base.specs.Words.{above_u64, greatest_u64}
use Rattle.lw_latch.specs.OwnLine.{latch_word, alone}
use Rattle.lw_latch.specs.RingWord.{most_senders, most_sent, closed_unit, finished_unit, parts, inside, finished, closed, count, receives, word_of, Fits, Latched, first_view, spent_view, sender_view, less_one_part, joined, closed_bit, Sat, Enters, Leaves, Finishes, TriesToClose, Tells, Learns}
use Rattle.lw_latch.specs.RingEnds.{IsSender, IsReceiver}
use Rattle.lw_base.proofs.Totals.{total_set, total_snoc, total_le, total_scaled, at_le, total_zero, total_only, others_none}

abbrev St : Type 0
St = State (Unit {0}) RingView

-- the bounds that the rule gives
record Bounded (vs : List RingView) : Type 0 where
  few : total inside vs ≤ most_senders
  finite : total finished vs ≤ most_senders * most_sent
  once : total closed vs ≤ 1

bounded : (s : St) → Latched s → Bounded s.views
bounded s h =
    let few = total_le inside parts s.views (λ i v e. (h.each i v e).inside_parts) in
    let finite = total_le finished (λ v. most_sent * v.parts) s.views (λ i v e. (h.each i v e).finished_parts) in
    let scaled = total_scaled most_sent parts s.views in
    let once = total_le closed receives s.views (λ i v e. (h.each i v e).closes) in
    let all = h.all_parts in
    let receiver = h.one_receiver in
    record { few = omega arith; finite = omega arith; once = omega arith }

word_found : (s : St) → Latched s → slice_index s.words latch_word ≡ word_of s.views
word_found s h = ap (λ l. slice_index l latch_word) h.word

-- one view changes in what it has inside and finished and found
moved : (s : St) (id : ℕ) (v w : RingView) (n : ℕ) (c : List (ℕ × Unit {0})) → Latched s → get_elem? s.views id ≡ some v
    → w.parts ≡ v.parts → w.receives ≡ v.receives → w.closed ≡ v.closed → w.count ≡ v.count
    → n + v.inside + finished_unit * v.finished ≡ word_of s.views + w.inside + finished_unit * w.finished
    → (1 ≤ total closed s.views → w.finished ≡ v.finished)
    → Fits (total closed s.views) w
    → Latched (stepped s latch_word n id c w keeps)
moved s id v w n c h at p r cl co is fin fit =
    let vs : List RingView = set s.views id w in
    let tp = total_set parts s.views id v w at in
    let tr = total_set receives s.views id v w at in
    let ti = total_set inside s.views id v w at in
    let tf = total_set finished s.views id v w at in
    let tc = total_set closed s.views id v w at in
    let tn = total_set count s.views id v w at in
    let all = h.all_parts in
    let receiver = h.one_receiver in
    let same : total closed vs ≡ total closed s.views = omega arith in
    let sum : n ≡ word_of vs = omega arith in
    record {
      all_parts = omega arith;
      one_receiver = omega arith;
      word = ap (λ l. set l latch_word n) h.word ∙ ap alone sum;
      settled = λ some_closed. (let old = h.settled (omega arith) in let still = fin (omega arith) in omega arith);
      each = λ j u e. subst (λ k. Fits k u) (sym same)
          (⊎_elim (λ (x : (j ≡ id) × (w ≡ u)). subst (λ y. Fits (total closed s.views) y) x.1 fit) (λ (x : (j ≢ id) × (get_elem? s.views j ≡ some u)). h.each j u x.1) (at_set s.views id j w u e));
    }

pub begins : Latched (opening (alone 0) [] first_view)
begins = record {
  all_parts = refl;
  one_receiver = refl;
  word = refl;
  settled = λ h. absurd (omega arith);
  each = λ j u e. ⊎_elim (λ (x : get_elem? {A = RingView} [] j ≡ some u). absurd (some-ne-none u (sym x)))
      (λ (x : first_view ≡ u). subst (λ y. Fits 0 y) x (record { inside_parts = omega arith; finished_parts = omega arith; closes = omega arith; counts = λ _. refl; found_closed = λ _. refl; inside_found = λ a b. absurd (omega arith) }))
      (at_snoc [] first_view u j e);
}

pub enters : (slots id : ℕ) (me : Sat) → IsSender me.0 → me.0.inside ≡ 0
    → Allows Latched slots id me latch_word (λ n. (n + 1) % above_u64) (Enters (step slots latch_word 1 0 none) me)
enters slots id me sender out s h _ at small =
    let v = me.0 in
    let part = sender.one_part in
    let n : ℕ = slice_index s.words latch_word in
    let is = word_found s h in
    let b = bounded s h in
    let fit = h.each id v at in
    let bit : closed_bit n ≡ total closed s.views = omega arith in
    let none_found : closed_bit n ≡ 0 → v.found ≡ 0 = λ unclosed. fit.found_closed (omega arith) in
    let w : RingView = record v { inside = 1; found = v.found + closed_bit n } in
    let now : (n + 1) % above_u64 ≡ n + 1 = omega arith in (
      w,
      keeps,
      tt,
      moved s id v w ((n + 1) % above_u64) me.1 h at refl refl refl refl (omega arith) (λ _. refl)
          (record {
            inside_parts = omega arith;
            finished_parts = fit.finished_parts;
            closes = fit.closes;
            counts = fit.counts;
            found_closed = λ unclosed. (let f = fit.found_closed unclosed in omega arith);
            inside_found = λ some_closed _. omega arith;
          }),
      record { counts = refl; never_found = none_found },
    )

pub leaves : (slots id : ℕ) (me : Sat) → me.0.inside ≡ 1
    → Allows Latched slots id me latch_word (λ n. (n + greatest_u64) % above_u64) (Leaves (step slots latch_word 1 0 none) me)
leaves slots id me inside_one s h _ at small =
    let v = me.0 in
    let n : ℕ = slice_index s.words latch_word in
    let is = word_found s h in
    let b = bounded s h in
    let fit = h.each id v at in
    let there = at_le inside s.views id v at in
    let w : RingView = record v { inside = 0 } in
    let fits_word : n < above_u64 = small in (
      w,
      keeps,
      tt,
      moved s id v w ((n + greatest_u64) % above_u64) me.1 h at refl refl refl refl (omega arith) (λ _. refl)
          (record {
            inside_parts = omega arith;
            finished_parts = fit.finished_parts;
            closes = fit.closes;
            counts = fit.counts;
            found_closed = fit.found_closed;
            inside_found = λ _ some_inside. absurd (omega arith);
          }),
      refl,
    )

pub finishes : (slots id : ℕ) (me : Sat) (many add : ℕ) → IsSender me.0 → me.0.inside ≡ 1 → 1 ≤ many → me.0.finished + many ≤ most_sent → add + 1 ≡ many * finished_unit
    → Allows Latched slots id me latch_word (λ n. (n + add) % above_u64) (Finishes (step slots latch_word add 0 none) me)
finishes slots id me many add sender inside_one some_finished room is_add s h _ at small =
    let v = me.0 in
    let n : ℕ = slice_index s.words latch_word in
    let is = word_found s h in
    let b = bounded s h in
    let fit = h.each id v at in
    let there = at_le inside s.views id v at in
    let part = sender.one_part in
    let not_found = sender.inside_found_not inside_one in
    let unclosed : 1 ≤ total closed s.views → ⊥ = λ some_closed. (let f = fit.inside_found some_closed (omega arith) in omega arith) in
    let counted : (add + 1) / finished_unit ≡ many = omega arith in
    let w : RingView = record v { inside = 0; finished = v.finished + (add + 1) / finished_unit } in
    let vs : List RingView = set s.views id w in
    let tf = total_set finished s.views id v w at in
    let tp = total_set parts s.views id v w at in
    let finite = total_le finished (λ u. most_sent * u.parts) vs (λ j u e. ⊎_elim
    (λ (x : (j ≡ id) × (w ≡ u)). subst (λ y. y.finished ≤ most_sent * y.parts) x.1 (omega arith))
    (λ (x : (j ≢ id) × (get_elem? s.views j ≡ some u)). (h.each j u x.1).finished_parts)
    (at_set s.views id j w u e)) in
    let scaled = total_scaled most_sent parts vs in
    let all = h.all_parts in
    let fits_word : n < above_u64 = small in (
      w,
      keeps,
      tt,
      moved s id v w ((n + add) % above_u64) me.1 h at refl refl refl refl (omega arith) (λ some_closed. absurd (unclosed some_closed))
          (record {
            inside_parts = omega arith;
            finished_parts = omega arith;
            closes = fit.closes;
            counts = fit.counts;
            found_closed = fit.found_closed;
            inside_found = λ _ some_inside. absurd (omega arith);
          }),
      refl,
    )

-- the word that the receiver closes
closing : (s : St) (id : ℕ) (v : RingView) (taken : ℕ) (c : List (ℕ × Unit {0})) → Latched s → get_elem? s.views id ≡ some v → v.receives ≡ 1 → v.inside ≡ 0 → v.closed ≡ 0
    → slice_index s.words latch_word ≡ taken * finished_unit
    → Latched (stepped s latch_word (taken * finished_unit + closed_unit) id c (record v { closed = 1; count = taken }) keeps)
closing s id v taken c h at receives_one out not_closed found_it =
    let w : RingView = record v { closed = 1; count = taken } in
    let vs : List RingView = set s.views id w in
    let is = word_found s h in
    let b = bounded s h in
    let fit = h.each id v at in
    let receiver = h.one_receiver in
    let others_not_closed : (j : ℕ) (u : RingView) → j ≢ id → get_elem? s.views j ≡ some u → u.closed ≡ 0 =
    λ j u apart e. (let r = others_none receives s.views id v at (omega arith) j u apart e in let k = (h.each j u e).closes in omega arith) in
    let none_closed = total_only closed s.views id v at others_not_closed in
    let none_counted = total_zero count s.views (λ j u e. (let k = at_le closed s.views j u e in (h.each j u e).counts (omega arith))) in
    let tp = total_set parts s.views id v w at in
    let tr = total_set receives s.views id v w at in
    let ti = total_set inside s.views id v w at in
    let tf = total_set finished s.views id v w at in
    let tc = total_set closed s.views id v w at in
    let tn = total_set count s.views id v w at in
    let all = h.all_parts in
    let now : total closed vs ≡ 1 = omega arith in
    let nobody_in : total inside s.views ≡ 0 = omega arith in
    let all_taken : total finished s.views ≡ taken = omega arith in
    record {
      all_parts = omega arith;
      one_receiver = omega arith;
      word = ap (λ l. set l latch_word (taken * finished_unit + closed_unit)) h.word ∙ ap alone (omega arith);
      settled = λ _. omega arith;
      each = λ j u e. subst (λ k. Fits k u) (sym now) (⊎_elim
          (λ (x : (j ≡ id) × (w ≡ u)). subst (λ y. Fits 1 y) x.1 (record { inside_parts = fit.inside_parts; finished_parts = fit.finished_parts; closes = omega arith; counts = λ z. absurd (omega arith); found_closed = λ z. absurd (omega arith); inside_found = λ _ z. absurd (omega arith) }))
          (λ (x : (j ≢ id) × (get_elem? s.views j ≡ some u)).
          (let f = h.each j u x.1 in
          let i = at_le inside s.views j u x.1 in
          record { inside_parts = f.inside_parts; finished_parts = f.finished_parts; closes = f.closes; counts = f.counts; found_closed = λ z. absurd (omega arith); inside_found = λ _ z. absurd (omega arith) }))
          (at_set s.views id j w u e));
    }

same_state : (s : St) (id : ℕ) (v : RingView) (c : List (ℕ × Unit {0})) → Latched s → get_elem? s.views id ≡ some v → Latched (stepped s latch_word (slice_index s.words latch_word) id c v keeps)
same_state s id v c h at = moved s id v v (slice_index s.words latch_word) c h at refl refl refl refl (let is = word_found s h in omega arith) (λ _. refl) (h.each id v at)

again : (c : ℕ) (v : RingView) (m n : ℕ) → Fits c v → Fits c (record v { tries = m; seen = n })
again c v m n f = record { inside_parts = f.inside_parts; finished_parts = f.finished_parts; closes = f.closes; counts = f.counts; found_closed = f.found_closed; inside_found = f.inside_found }

pub closes : (slots id : ℕ) (me : Sat) (taken old new : ℕ) → IsReceiver me.0 → me.0.closed ≡ 0 → old ≡ taken * finished_unit → new ≡ old + closed_unit
    → Allows Latched slots id me latch_word (λ n. either (eqb n old) new n) (TriesToClose (step slots latch_word old new none) me)
closes slots id me taken old new receiver not_closed is_old is_new s h _ at small =
    let n : ℕ = slice_index s.words latch_word in
    let w : RingView = record me.0 { closed = 1; count = old / finished_unit } in
    let u : RingView = record me.0 { tries = me.0.tries + 1; seen = n } in
    let to_word : taken * finished_unit + closed_unit ≡ new = omega arith in
    let to_count : taken ≡ old / finished_unit = omega arith in
    let is = word_found s h in
    dite (ℕ_discrete n old)
    (λ hit. (
      w,
      keeps,
      tt,
      subst (λ b. Latched (stepped s latch_word (either b new n) id me.1 w keeps)) (sym (eq-eqb n old hit))
          (subst (λ (y : ℕ × ℕ). Latched (stepped s latch_word y.0 id me.1 (record me.0 { closed = 1; count = y.1 }) keeps)) (λ i. (to_word i, to_count i))
          (closing s id me.0 taken me.1 h at receiver.receives receiver.outside not_closed (hit ∙ is_old))),
      record { closes = λ _. refl; in_vain = λ not. absurd (not hit) },
    ))
    (λ miss. (
      u,
      keeps,
      tt,
      subst (λ b. Latched (stepped s latch_word (either b new n) id me.1 u keeps)) (sym (ne_eqb n old miss))
          (moved s id me.0 u n me.1 h at refl refl refl refl (omega arith) (λ _. refl) (again (total closed s.views) me.0 (me.0.tries + 1) n (h.each id me.0 at))),
      record { closes = λ hit. absurd (miss hit); in_vain = λ _. refl },
    ))

tells : (s : St) (id : ℕ) (v : RingView) → Latched s → get_elem? s.views id ≡ some v → v.parts ≡ most_senders → v.receives ≡ 1
    → Tells v (slice_index s.words latch_word)
tells s id v h at has_all receives_one =
    let is = word_found s h in
    let b = bounded s h in
    let all = h.all_parts in
    let receiver = h.one_receiver in
    let fit = h.each id v at in
    let none : (j : ℕ) (u : RingView) → j ≢ id → get_elem? s.views j ≡ some u → (u.parts ≡ 0) × (u.receives ≡ 0) =
    λ j u apart e. (others_none parts s.views id v at (omega arith) j u apart e, others_none receives s.views id v at (omega arith) j u apart e) in
    let ti = total_only inside s.views id v at (λ j u apart e. (let z = none j u apart e in let f = (h.each j u e).inside_parts in omega arith)) in
    let tf = total_only finished s.views id v at (λ j u apart e. (let z = none j u apart e in let f = (h.each j u e).finished_parts in omega arith)) in
    let tc = total_only closed s.views id v at (λ j u apart e. (let z = none j u apart e in let f = (h.each j u e).closes in omega arith)) in
    let tn = total_only count s.views id v at (λ j u apart e. (let z = none j u apart e in let f = (h.each j u e).closes in (h.each j u e).counts (omega arith))) in
    let settle = h.settled in
    let fc = fit.found_closed in
    record {
      own = omega arith;
      settled = λ some_closed. omega arith;
      found = λ some_found. dite (ℕ_discrete (total closed s.views) 0) (λ z. absurd (let f = fc z in omega arith)) (λ nz. omega arith);
    }

pub looks : (slots id : ℕ) (me : Sat) → Allows Latched slots id me latch_word (λ n. n) (Learns (step slots latch_word 0 0 none) me)
looks slots id me s h _ at small = (me.0, keeps, tt, same_state s id me.0 me.1 h at, record { same = refl; tells = λ p r. tells s id me.0 h at p r })

-- a view is cut or joined: the totals stay
pub splits : (id : ℕ) (v : RingView) → 1 ≤ v.parts → v.inside ≡ 0 → v.finished ≡ 0 → Splits Latched id v (less_one_part v) sender_view
splits id v some_part out none_finished s h at =
    let w : RingView = less_one_part v in
    let vs : List RingView = set s.views id w in
    let tp = total_set parts s.views id v w at in
    let tr = total_set receives s.views id v w at in
    let ti = total_set inside s.views id v w at in
    let tf = total_set finished s.views id v w at in
    let tc = total_set closed s.views id v w at in
    let tn = total_set count s.views id v w at in
    let sp = total_snoc parts vs sender_view in
    let sr = total_snoc receives vs sender_view in
    let si = total_snoc inside vs sender_view in
    let sf = total_snoc finished vs sender_view in
    let sc = total_snoc closed vs sender_view in
    let sn = total_snoc count vs sender_view in
    let all = h.all_parts in
    let receiver = h.one_receiver in
    let fit = h.each id v at in
    let same : total closed (vs ++ sender_view ∷ []) ≡ total closed s.views = omega arith in
    record {
      all_parts = omega arith;
      one_receiver = omega arith;
      word = h.word ∙ ap alone (omega arith);
      settled = λ some_closed. (let old = h.settled (omega arith) in omega arith);
      each = λ j u e. subst (λ k. Fits k u) (sym same) (⊎_elim
          (λ (here : get_elem? vs j ≡ some u). ⊎_elim
          (λ (x : (j ≡ id) × (w ≡ u)). subst (λ y. Fits (total closed s.views) y) x.1
          (record { inside_parts = omega arith; finished_parts = omega arith; closes = fit.closes; counts = fit.counts; found_closed = fit.found_closed; inside_found = λ _ z. absurd (omega arith) }))
          (λ (x : (j ≢ id) × (get_elem? s.views j ≡ some u)). h.each j u x.1)
          (at_set s.views id j w u here))
          (λ (new : sender_view ≡ u). subst (λ y. Fits (total closed s.views) y) new
          (record { inside_parts = omega arith; finished_parts = omega arith; closes = omega arith; counts = λ _. refl; found_closed = λ _. refl; inside_found = λ _ z. absurd (omega arith) }))
          (at_snoc vs sender_view u j e));
    }

pub joins : (id : ℕ) (v : RingView) (other : ℕ) (u : RingView) → v.inside ≡ 0 → u.inside ≡ 0 → Joins Latched id v other u (joined v u) spent_view
joins id v other u out out' s h at apart there =
    let w : RingView = joined v u in
    let vs : List RingView = set s.views id w in
    let was : get_elem? s.views other ≡ some u = ⊎_elim (λ (x : (other ≡ id) × (w ≡ u)). absurd (apart x.0)) (λ (x : (other ≢ id) × (get_elem? s.views other ≡ some u)). x.1) (at_set s.views id other w u there) in
    let tp = total_set parts s.views id v w at in
    let tr = total_set receives s.views id v w at in
    let ti = total_set inside s.views id v w at in
    let tf = total_set finished s.views id v w at in
    let tc = total_set closed s.views id v w at in
    let tn = total_set count s.views id v w at in
    let sp = total_set parts vs other u spent_view there in
    let sr = total_set receives vs other u spent_view there in
    let si = total_set inside vs other u spent_view there in
    let sf = total_set finished vs other u spent_view there in
    let sc = total_set closed vs other u spent_view there in
    let sn = total_set count vs other u spent_view there in
    let all = h.all_parts in
    let receiver = h.one_receiver in
    let f = h.each id v at in
    let g = h.each other u was in
    let same : total closed (set vs other spent_view) ≡ total closed s.views = omega arith in
    record {
      all_parts = omega arith;
      one_receiver = omega arith;
      word = h.word ∙ ap alone (omega arith);
      settled = λ some_closed. (let old = h.settled (omega arith) in omega arith);
      each = λ j y e. subst (λ k. Fits k y) (sym same) (⊎_elim
          (λ (x : (j ≡ other) × (spent_view ≡ y)). subst (λ z. Fits (total closed s.views) z) x.1
          (record { inside_parts = omega arith; finished_parts = omega arith; closes = omega arith; counts = λ _. refl; found_closed = λ _. refl; inside_found = λ _ z. absurd (omega arith) }))
          (λ (x : (j ≢ other) × (get_elem? vs j ≡ some y)). ⊎_elim
          (λ (x' : (j ≡ id) × (w ≡ y)). subst (λ z. Fits (total closed s.views) z) x'.1
          (record {
            inside_parts = omega arith;
            finished_parts = (let a = f.finished_parts in let b = g.finished_parts in omega arith);
            closes = (let a = f.closes in let b = g.closes in omega arith);
            counts = λ z. (let a = f.counts (omega arith) in let b = g.counts (omega arith) in omega arith);
            found_closed = λ z. (let a = f.found_closed z in let b = g.found_closed z in omega arith);
            inside_found = λ _ z. absurd (omega arith);
          }))
          (λ (x' : (j ≢ id) × (get_elem? s.views j ≡ some y)). h.each j y x'.1)
          (at_set s.views id j w y x.1))
          (at_set vs other j spent_view y e));
    }
