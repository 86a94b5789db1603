-- The steps that shut a device's latch, and that fire it, keep its rule.
use Rattle.std.proofs.Common.{◌≡◌, ◌≢◌, ℕ, ◌+◌, ◌≤◌, eqb, List, set, refl, sym, ap, ◌∙◌, subst, ⊎_elim, arith, slice_index, eq-eqb, ne_eqb, bit_or}
use mathlib.Core.Option.{none, some}
use mathlib.Core.Logic.{dite}
use native.Mathlib.Decide.{ℕ_discrete}
use lib.ListN.{get_elem?}
use prog.Atomic.{either}
use Rattle.atomic_table.specs.Table.{keeps, step, stepped, Allows}
use Rattle.atomic_table.proofs.Lists.{at_set}
use Rattle.lw_latch.specs.declared.device_view.DeviceView.{DeviceView}
use Rattle.lw_base.specs.Totals.{total}
use Rattle.lw_latch.specs.OwnLine.{latch_word, alone}
use Rattle.lw_latch.specs.DeviceWord.{shut_unit, fired_unit, seats, given_count, backing_count, begun_count, count, opens, opens_then, fired_count, held_count, open_count, times_given, device_word, Suits, Tied, shut_bit, word_given, closing_word, view_found, view_begun, view_fired, view_tried, Sat, Begins, TriesToFire}
use Rattle.lw_base.proofs.Totals.{total_set, at_le, total_zero}
use Rattle.lw_latch.proofs.ShutBit.{sets_shut, keeps_shut}
use Rattle.lw_latch.proofs.DeviceMoves.{St, bounded, reads, moved}
use Rattle.lw_latch.proofs.DeviceTelling.{tells}
use Rattle.lw_latch.proofs.DeviceSteps.{grown}

-- an open latch is shut
begins_one : (all : ℕ) (s : St) (id : ℕ) (v : DeviceView) (n m o : ℕ) (c : List (ℕ × Unit {0})) → Tied all s → get_elem? s.views id ≡ some v
    → total begun_count s.views ≡ 0 → 1 ≤ v.seats → n ≡ device_word s.views + shut_unit → m ≡ total given_count s.views → o ≡ total opens s.views
    → Tied all (stepped s latch_word n id c (view_begun m o v) keeps)
begins_one all s id v n m o c h at unshut some_seat is told often =
    let w : DeviceView = view_begun m o v in
    let vs : List DeviceView = set s.views id w in
    let ts = total_set seats s.views id v w at in
    let tg = total_set given_count s.views id v w at in
    let tk = total_set backing_count s.views id v w at in
    let tb = total_set begun_count s.views id v w at in
    let tc = total_set count s.views id v w at in
    let tn = total_set opens s.views id v w at in
    let tm = total_set opens_then s.views id v w at in
    let tf = total_set fired_count s.views id v w at in
    let th = total_set held_count s.views id v w at in
    let to = total_set open_count s.views id v w at in
    let a = h.all_seats in
    let mine = at_le begun_count s.views id v at in
    let unfired = (bounded all s h).fired_begun in
    let uncounted : total count s.views ≡ 0 = total_zero count s.views (λ i u e. ((h.each i u e).counts (let b = at_le begun_count s.views i u e in omega arith)).0) in
    let mine_uncounted = at_le count s.views id v at in
    let unknown : total opens_then s.views ≡ 0 = total_zero opens_then s.views (λ i u e. ((h.each i u e).counts (let b = at_le begun_count s.views i u e in omega arith)).1) in
    let mine_unknown = at_le opens_then s.views id v at in
    let f = h.each id v at in
    let fb = f.fired_begun in
    let sum : n ≡ device_word vs = omega arith in
    record {
      few = h.few;
      all_seats = omega arith;
      word = ap (λ l. set l latch_word n) h.word ∙ ap alone sum;
      one_begun = omega arith;
      settled = λ _. omega arith;
      before = λ _. omega arith;
      quiet = λ z. absurd (omega arith);
      once = λ k l. (let t = total_set (times_given k) s.views id v w at in let o = h.once k (omega arith) in omega arith);
      none_else = λ k l. (let t = total_set (times_given k) s.views id v w at in let o = h.none_else k (omega arith) in omega arith);
      each = λ j u e. ⊎_elim
          (λ (x : (j ≡ id) × (w ≡ u)). subst (λ y. Suits all (total begun_count vs) y) x.1
          (record {
            of_latch = f.of_latch;
            one_channel = f.one_channel;
            one_visit = f.one_visit;
            few_gives = f.few_gives;
            few_given = f.few_given;
            none_given = f.none_given;
            began = some_seat;
            counts = λ z. absurd (omega arith);
            fired_begun = omega arith;
            found_shut = λ z. absurd (omega arith);
            backing_shut = λ z. absurd (omega arith);
          }))
          (λ (x : (j ≢ id) × (get_elem? s.views j ≡ some u)).
          (let g = h.each j u x.1 in
          record { of_latch = g.of_latch; one_channel = g.one_channel; one_visit = g.one_visit; few_gives = g.few_gives; few_given = g.few_given; none_given = g.none_given; began = g.began; counts = g.counts; fired_begun = g.fired_begun; found_shut = λ z. absurd (omega arith); backing_shut = λ z. absurd (omega arith) }))
          (at_set s.views id j w u e);
    }

pub shuts : (all slots id : ℕ) (me : Sat) → 1 ≤ me.0.seats
    → Allows (Tied all) slots id me latch_word (λ n. bit_or n shut_unit) (Begins (step slots latch_word shut_unit 0 none) me)
shuts all slots id me some_seat s h _ at small =
    let v = me.0 in
    let n : ℕ = slice_index s.words latch_word in
    let r = reads all s h in
    let is = r.is in
    let bit = r.bit in
    let f = h.each id v at in
    let mine = at_le begun_count s.views id v at in
    dite (ℕ_discrete (shut_bit n) 0)
    (λ unshut. (
      view_begun (word_given n) (total opens s.views) v,
      keeps,
      tt,
      begins_one all s id v (bit_or n shut_unit) (word_given n) (total opens s.views) me.1 h at (omega arith) some_seat (let o = sets_shut n unshut in omega arith) (r.unshut (omega arith)) refl,
      record {
        began = λ _. record {
          often = total opens s.views;
          seat = refl;
          knew = (f.found_shut (omega arith), omega arith);
          own_given = (let g = r.unshut (omega arith) in let t = at_le given_count s.views id v at in omega arith);
          own_opens = at_le opens s.views id v at;
          above = λ k l. (let z = h.none_else k (let g = r.unshut (omega arith) in omega arith) in let t = at_le (times_given k) s.views id v at in omega arith);
        };
        already = λ not. absurd (not unshut);
        all = λ stands. tells all s id v h at stands;
      },
    ))
    (λ shut. (
      view_found v,
      keeps,
      tt,
      moved all s id v (view_found v) (bit_or n shut_unit) me.1 h at refl refl refl refl refl refl (let o = keeps_shut n shut in omega arith) (λ _. (omega arith, refl))
          (grown all (total begun_count s.views) v v.gives v.looks (v.found + 1) v.tries v.seen f (λ z. shut (omega arith)) (omega arith) f.few_gives),
      record { began = λ unshut. absurd (shut unshut); already = λ _. refl; all = λ stands. tells all s id v h at stands },
    ))

-- a shut latch with nothing open fires
fires_once : (all : ℕ) (s : St) (id : ℕ) (v : DeviceView) (n m seen : ℕ) (c : List (ℕ × Unit {0})) → Tied all s → get_elem? s.views id ≡ some v
    → 1 ≤ v.begun → device_word s.views ≡ closing_word m → n ≡ device_word s.views + fired_unit
    → Tied all (stepped s latch_word n id c (view_fired seen v) keeps)
fires_once all s id v n m seen c h at began closing is =
    let w : DeviceView = view_fired seen v in
    let vs : List DeviceView = set s.views id w in
    let ts = total_set seats s.views id v w at in
    let tg = total_set given_count s.views id v w at in
    let tk = total_set backing_count s.views id v w at in
    let tb = total_set begun_count s.views id v w at in
    let tc = total_set count s.views id v w at in
    let tn = total_set opens s.views id v w at in
    let tm = total_set opens_then s.views id v w at in
    let tf = total_set fired_count s.views id v w at in
    let th = total_set held_count s.views id v w at in
    let to = total_set open_count s.views id v w at in
    let a = h.all_seats in
    let once = h.one_begun in
    let mine = at_le begun_count s.views id v at in
    let mine_fired = at_le fired_count s.views id v at in
    let b = bounded all s h in
    let few = b.few_open in
    let few_backing = b.few_backing in
    let fired_few = b.fired_begun in
    let less = b.held_opened in
    let f = h.each id v at in
    let unfired : total fired_count s.views ≡ 0 = omega arith in
    let unopened : total open_count s.views ≡ 0 = omega arith in
    let sum : n ≡ device_word vs = omega arith in
    let same : total begun_count vs ≡ total begun_count s.views = omega arith in
    record {
      few = h.few;
      all_seats = omega arith;
      word = ap (λ l. set l latch_word n) h.word ∙ ap alone sum;
      one_begun = omega arith;
      settled = λ z. (let o = h.settled (omega arith) in omega arith);
      before = λ z. (let o = h.before (omega arith) in omega arith);
      quiet = λ _. omega arith;
      once = λ k l. (let t = total_set (times_given k) s.views id v w at in let o = h.once k (omega arith) in omega arith);
      none_else = λ k l. (let t = total_set (times_given k) s.views id v w at in let o = h.none_else k (omega arith) in omega arith);
      each = λ j u e. subst (λ k. Suits all k u) (sym same)
          (⊎_elim
          (λ (x : (j ≡ id) × (w ≡ u)). subst (λ y. Suits all (total begun_count s.views) y) x.1
          (record { of_latch = f.of_latch; one_channel = f.one_channel; one_visit = f.one_visit; few_gives = f.few_gives; few_given = f.few_given; none_given = f.none_given; began = f.began; counts = f.counts; fired_begun = omega arith; found_shut = f.found_shut; backing_shut = f.backing_shut }))
          (λ (x : (j ≢ id) × (get_elem? s.views j ≡ some u)). h.each j u x.1)
          (at_set s.views id j w u e));
    }

pub fires : (all slots id : ℕ) (me : Sat) (m old new : ℕ) → 1 ≤ me.0.begun → old ≡ closing_word m → new ≡ old + fired_unit
    → Allows (Tied all) slots id me latch_word (λ n. either (eqb n old) new n) (TriesToFire (step slots latch_word old new none) me)
fires all slots id me m old new began is_old is_new s h _ at small =
    let v = me.0 in
    let n : ℕ = slice_index s.words latch_word in
    let r = reads all s h in
    let is = r.is in
    let mine = at_le begun_count s.views id v at in
    let mine_fired = at_le fired_count s.views id v at in
    let mine_held = at_le held_count s.views id v at in
    let once = h.one_begun in
    let b = bounded all s h in
    let few = b.few_open in
    let few_backing = b.few_backing in
    let fired_few = b.fired_begun in
    let less = b.held_opened in
    dite (ℕ_discrete n old)
    (λ hit. (
      view_fired n v,
      keeps,
      tt,
      subst (λ b. Tied all (stepped s latch_word (either b new n) id me.1 (view_fired n v) keeps)) (sym (eq-eqb n old hit))
          (fires_once all s id v new m n me.1 h at began (omega arith) (omega arith)),
      record { fired = λ _. (refl, (omega arith), omega arith); in_vain = λ not. absurd (not hit); all = λ stands. tells all s id v h at stands },
    ))
    (λ miss. (
      view_tried n v,
      keeps,
      tt,
      subst (λ b. Tied all (stepped s latch_word (either b new n) id me.1 (view_tried n v) keeps)) (sym (ne_eqb n old miss))
          (moved all s id v (view_tried n v) n me.1 h at refl refl refl refl refl refl (omega arith) (λ _. (omega arith, refl))
          (grown all (total begun_count s.views) v v.gives v.looks v.found (v.tries + 1) n (h.each id v at) (λ z. omega arith) (omega arith) ((h.each id v at).few_gives))),
      record { fired = λ hit. absurd (miss hit); in_vain = λ _. refl; all = λ stands. tells all s id v h at stands },
    ))
