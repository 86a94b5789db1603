-- Each kind of step keeps the rule of a device's latch.
use Rattle.std.proofs.Common.{◌≡◌, ◌≢◌, ℕ, ◌+◌, ◌-◌, ◌%◌, ◌^◌, ◌<◌, ◌≤◌, if◌then◌else◌, List, [], ◌∷◌, ◌++◌, set, refl, sym, ap, ◌∙◌, subst, ⊎_elim, arith, slice_index, eq-eqb, ne_eqb, length-append}
use mathlib.Core.Option.{none, some}
use mathlib.Core.Logic.{dite}
use native.Mathlib.Decide.{ℕ_discrete}
use lib.ListN.{get_elem?}
use Rattle.atomic_table.specs.Table.{keeps, step, stepped, Allows}
use Rattle.atomic_table.proofs.Lists.{at_set}
use Rattle.lw_latch.specs.declared.device_view.DeviceView.{DeviceView}
use Rattle.lw_base.specs.Totals.{total, times}
use Rattle.lw_latch.specs.OwnLine.{latch_word, alone}
use Rattle.lw_latch.specs.DeviceWord.{most_gives, open_unit, giving, seats, given_count, backing_count, begun_count, fired_count, open_count, times_given, device_word, Suits, Tied, shut_bit, word_given, view_given, view_not_given, view_visiting, view_usable, view_found, Sat, Gives, TakesBack, Holds, LetsGo, Releases, Unholds, LooksAtShut}
use Rattle.lw_base.proofs.Totals.{total_set, at_le}
use Rattle.lw_latch.proofs.DeviceMoves.{St, bounded, reads, moved}
use Rattle.lw_latch.proofs.DeviceTelling.{tells}

-- what stands of a view whose calls and finds alone grow, where the latch is shut
pub grown : (all shut : ℕ) (v : DeviceView) (g l f t n : ℕ) → Suits all shut v → shut ≢ 0 → v.gives ≤ g → g ≤ most_gives
    → Suits all shut (record v { gives = g; looks = l; found = f; tries = t; seen = n })
grown all shut v g l f t n s is_shut more few =
    record {
      of_latch = s.of_latch;
      one_channel = s.one_channel;
      one_visit = s.one_visit;
      few_gives = few;
      few_given = λ some_seat. (let o = s.few_given some_seat in omega arith);
      none_given = s.none_given;
      began = s.began;
      counts = s.counts;
      fired_begun = s.fired_begun;
      found_shut = λ z. absurd (is_shut z);
      backing_shut = λ z. absurd (is_shut z);
    }

-- the same, and the channel, the visit or what is taken back changes
changed : (all shut : ℕ) (v : DeviceView) (ch vi ba le : ℕ) → Suits all shut v → ch + ba ≤ v.seats → vi + le ≤ v.seats → (shut ≡ 0 → ba + le ≡ 0)
    → Suits all shut (record v { channel = ch; visit = vi; backing = ba; leaving = le })
changed all shut v ch vi ba le s c w b =
    record {
      of_latch = s.of_latch;
      one_channel = c;
      one_visit = w;
      few_gives = s.few_gives;
      few_given = s.few_given;
      none_given = s.none_given;
      began = s.began;
      counts = s.counts;
      fired_begun = s.fired_begun;
      found_shut = s.found_shut;
      backing_shut = b;
    }

-- the same, where the latch was found open once more
found_open : (all shut : ℕ) (v : DeviceView) (l : ℕ) → Suits all shut v → 1 ≤ v.seats → Suits all shut (record v { looks = l; opens = v.opens + 1 })
found_open all shut v l s some_seat =
    record {
      of_latch = s.of_latch;
      one_channel = s.one_channel;
      one_visit = s.one_visit;
      few_gives = s.few_gives;
      few_given = s.few_given;
      none_given = λ z. absurd (omega arith);
      began = s.began;
      counts = s.counts;
      fired_begun = s.fired_begun;
      found_shut = s.found_shut;
      backing_shut = s.backing_shut;
    }

-- one more channel is given, of an open latch
gives_one : (all : ℕ) (s : St) (id : ℕ) (v : DeviceView) (n m : ℕ) (c : List (ℕ × Unit {0})) → Tied all s → get_elem? s.views id ≡ some v
    → total begun_count s.views ≡ 0 → 1 ≤ v.seats → v.channel ≡ 0 → v.gives < most_gives → n ≡ device_word s.views + giving → m ≡ total given_count s.views
    → Tied all (stepped s latch_word n id c (view_given m v) keeps)
gives_one all s id v n m c h at unshut some_seat free room is next =
    let w : DeviceView = view_given m v in
    let vs : List DeviceView = set s.views id w in
    let ts = total_set seats s.views id v w at in
    let tg = total_set given_count s.views id v w at in
    let tk = total_set backing_count s.views id v w at in
    let tb = total_set begun_count s.views id v w at in
    let tf = total_set fired_count s.views id v w at in
    let to = total_set open_count s.views id v w at in
    let long = length-append v.ordinals (m ∷ []) in
    let a = h.all_seats in
    let unfired = (bounded all s h).fired_begun in
    let f = h.each id v at in
    let back = f.backing_shut unshut in
    let same : total begun_count vs ≡ total begun_count s.views = omega arith in
    let more : total given_count vs ≡ total given_count s.views + 1 = omega arith in
    let sum : n ≡ device_word vs = omega arith in
    record {
      few = h.few;
      all_seats = omega arith;
      word = ap (λ l. set l latch_word n) h.word ∙ ap alone sum;
      one_begun = omega arith;
      settled = λ z. absurd (omega arith);
      before = λ z. absurd (omega arith);
      quiet = λ z. absurd (omega arith);
      once = λ k l. (let t = total_set (times_given k) s.views id v w at in let e = times_snoc k m v.ordinals in dite (ℕ_discrete k m)
          (λ here. (let o = h.none_else k (omega arith) in let x = e.0 here in omega arith))
          (λ apart. (let o = h.once k (omega arith) in let x = e.1 apart in omega arith)));
      none_else = λ k l. (let t = total_set (times_given k) s.views id v w at in let e = times_snoc k m v.ordinals in let o = h.none_else k (omega arith) in let x = e.1 (λ here. omega arith) in omega arith);
      each = λ j u e. subst (λ k. Suits all k u) (sym same)
          (⊎_elim
          (λ (x : (j ≡ id) × (w ≡ u)). subst (λ y. Suits all (total begun_count s.views) y) x.1
          (record {
            of_latch = f.of_latch;
            one_channel = omega arith;
            one_visit = f.one_visit;
            few_gives = omega arith;
            few_given = λ z. (let o = f.few_given z in omega arith);
            none_given = λ z. absurd (omega arith);
            began = f.began;
            counts = f.counts;
            fired_begun = f.fired_begun;
            found_shut = f.found_shut;
            backing_shut = f.backing_shut;
          }))
          (λ (x : (j ≢ id) × (get_elem? s.views j ≡ some u)). h.each j u x.1)
          (at_set s.views id j w u e));
    }
  where
    times_snoc : (k m : ℕ) (xs : List ℕ) → (k ≡ m → times k (xs ++ m ∷ []) ≡ times k xs + 1) × (k ≢ m → times k (xs ++ m ∷ []) ≡ times k xs)
    times_snoc k m [] = ((λ e. ap (λ b. (if b then 1 else 0) + 0) (eq-eqb m k (sym e))), λ e. ap (λ b. (if b then 1 else 0) + 0) (ne_eqb m k (λ z. e (sym z))))
    times_snoc k m (x ∷ xs) = let r = times_snoc k m xs in ((λ e. (let a = r.0 e in omega arith)), λ e. (let a = r.1 e in omega arith))

pub gives : (all slots id : ℕ) (me : Sat) → 1 ≤ me.0.seats → me.0.channel ≡ 0 → me.0.backing ≡ 0 → me.0.gives < most_gives
    → Allows (Tied all) slots id me latch_word (λ n. (n + giving) % 2 ^ 64) (Gives (step slots latch_word giving 0 none) me)
gives all slots id me some_seat free idle room s h _ at small =
    let v = me.0 in
    let n : ℕ = slice_index s.words latch_word in
    let r = reads all s h in
    let is = r.is in
    let bit = r.bit in
    let fits = r.fits in
    let f = h.each id v at in
    let now : (n + giving) % 2 ^ 64 ≡ n + giving = omega arith in
    dite (ℕ_discrete (shut_bit n) 0)
    (λ unshut. (
      view_given (word_given n) v,
      keeps,
      tt,
      gives_one all s id v ((n + giving) % 2 ^ 64) (word_given n) me.1 h at (omega arith) some_seat free room (omega arith) (r.unshut (omega arith)),
      record {
        given = λ _. (refl, (f.found_shut (omega arith), (let b = at_le begun_count s.views id v at in omega arith)), λ k l. (let z = h.none_else k (let g = r.unshut (omega arith) in omega arith) in let t = at_le (times_given k) s.views id v at in omega arith));
        shut = λ not. absurd (not unshut);
        all = λ stands. tells all s id v h at stands;
      },
    ))
    (λ shut. (
      record (view_not_given v) { backing = 1 },
      keeps,
      tt,
      moved all s id v (record (view_not_given v) { backing = 1 }) ((n + giving) % 2 ^ 64) me.1 h at refl refl refl refl refl refl (omega arith) (λ _. (omega arith, refl))
          (changed all (total begun_count s.views) (view_not_given v) v.channel v.visit 1 v.leaving (grown all (total begun_count s.views) v (v.gives + 1) v.looks (v.found + 1) v.tries v.seen f (λ z. shut (omega arith)) (omega arith) (omega arith)) (omega arith) f.one_visit (λ z. absurd (shut (omega arith)))),
      record { given = λ unshut. absurd (shut unshut); shut = λ _. refl; all = λ stands. tells all s id v h at stands },
    ))

pub takes_back : (all slots id : ℕ) (me : Sat) → me.0.backing ≡ 1
    → Allows (Tied all) slots id me latch_word (λ n. (n + (2 ^ 64 - giving)) % 2 ^ 64) (TakesBack (step slots latch_word giving 0 none) me)
takes_back all slots id me back s h _ at small =
    let v = me.0 in
    let n : ℕ = slice_index s.words latch_word in
    let r = reads all s h in
    let is = r.is in
    let fits = r.fits in
    let f = h.each id v at in
    let there = at_le open_count s.views id v at in
    let backs = at_le backing_count s.views id v at in (
      record v { backing = 0 },
      keeps,
      tt,
      moved all s id v (record v { backing = 0 }) ((n + (2 ^ 64 - giving)) % 2 ^ 64) me.1 h at refl refl refl refl refl refl (omega arith) (λ _. (omega arith, refl))
          (changed all (total begun_count s.views) v v.channel v.visit 0 v.leaving f (let c = f.one_channel in omega arith) f.one_visit (λ z. (let b = f.backing_shut z in omega arith))),
      refl,
    )

pub holds : (all slots id : ℕ) (me : Sat) → 1 ≤ me.0.seats → me.0.visit ≡ 0 → me.0.leaving ≡ 0
    → Allows (Tied all) slots id me latch_word (λ n. (n + open_unit) % 2 ^ 64) (Holds (step slots latch_word open_unit 0 none) me)
holds all slots id me some_seat free idle s h _ at small =
    let v = me.0 in
    let n : ℕ = slice_index s.words latch_word in
    let r = reads all s h in
    let is = r.is in
    let bit = r.bit in
    let fits = r.fits in
    let f = h.each id v at in
    dite (ℕ_discrete (shut_bit n) 0)
    (λ unshut. (
      view_visiting v,
      keeps,
      tt,
      moved all s id v (view_visiting v) ((n + open_unit) % 2 ^ 64) me.1 h at refl refl refl refl refl refl (omega arith) (λ z. absurd (omega arith))
          (changed all (total begun_count s.views) (record v { opens = v.opens + 1 }) v.channel 1 v.backing v.leaving (found_open all (total begun_count s.views) v v.looks f some_seat) f.one_channel (omega arith) f.backing_shut),
      record { held = λ _. (refl, (f.found_shut (omega arith), (let b = at_le begun_count s.views id v at in omega arith))); shut = λ not. absurd (not unshut) },
    ))
    (λ shut. (
      record (view_found v) { leaving = 1 },
      keeps,
      tt,
      moved all s id v (record (view_found v) { leaving = 1 }) ((n + open_unit) % 2 ^ 64) me.1 h at refl refl refl refl refl refl (omega arith) (λ _. (omega arith, refl))
          (changed all (total begun_count s.views) (view_found v) v.channel v.visit v.backing 1 (grown all (total begun_count s.views) v v.gives v.looks (v.found + 1) v.tries v.seen f (λ z. shut (omega arith)) (omega arith) f.few_gives) f.one_channel (omega arith) (λ z. absurd (shut (omega arith)))),
      record { held = λ unshut. absurd (shut unshut); shut = λ _. refl },
    ))

pub lets_go : (all slots id : ℕ) (me : Sat) → me.0.leaving ≡ 1
    → Allows (Tied all) slots id me latch_word (λ n. (n + (2 ^ 64 - open_unit)) % 2 ^ 64) (LetsGo (step slots latch_word open_unit 0 none) me)
lets_go all slots id me leaves s h _ at small =
    let v = me.0 in
    let n : ℕ = slice_index s.words latch_word in
    let r = reads all s h in
    let is = r.is in
    let fits = r.fits in
    let f = h.each id v at in
    let there = at_le open_count s.views id v at in (
      record v { leaving = 0 },
      keeps,
      tt,
      moved all s id v (record v { leaving = 0 }) ((n + (2 ^ 64 - open_unit)) % 2 ^ 64) me.1 h at refl refl refl refl refl refl (omega arith) (λ _. (omega arith, refl))
          (changed all (total begun_count s.views) v v.channel v.visit v.backing 0 f f.one_channel (let c = f.one_visit in omega arith) (λ z. (let b = f.backing_shut z in omega arith))),
      refl,
    )

pub releases : (all slots id : ℕ) (me : Sat) → me.0.channel ≡ 1
    → Allows (Tied all) slots id me latch_word (λ n. (n + (2 ^ 64 - open_unit)) % 2 ^ 64) (Releases (step slots latch_word open_unit 0 none) me)
releases all slots id me has s h _ at small =
    let v = me.0 in
    let n : ℕ = slice_index s.words latch_word in
    let r = reads all s h in
    let is = r.is in
    let fits = r.fits in
    let f = h.each id v at in
    let there = at_le open_count s.views id v at in (
      record v { channel = 0 },
      keeps,
      tt,
      moved all s id v (record v { channel = 0 }) ((n + (2 ^ 64 - open_unit)) % 2 ^ 64) me.1 h at refl refl refl refl refl refl (omega arith) (λ _. (omega arith, refl))
          (changed all (total begun_count s.views) v 0 v.visit v.backing v.leaving f (let c = f.one_channel in omega arith) f.one_visit f.backing_shut),
      refl,
    )

pub unholds : (all slots id : ℕ) (me : Sat) → me.0.visit ≡ 1
    → Allows (Tied all) slots id me latch_word (λ n. (n + (2 ^ 64 - open_unit)) % 2 ^ 64) (Unholds (step slots latch_word open_unit 0 none) me)
unholds all slots id me has s h _ at small =
    let v = me.0 in
    let n : ℕ = slice_index s.words latch_word in
    let r = reads all s h in
    let is = r.is in
    let fits = r.fits in
    let f = h.each id v at in
    let there = at_le open_count s.views id v at in (
      record v { visit = 0 },
      keeps,
      tt,
      moved all s id v (record v { visit = 0 }) ((n + (2 ^ 64 - open_unit)) % 2 ^ 64) me.1 h at refl refl refl refl refl refl (omega arith) (λ _. (omega arith, refl))
          (changed all (total begun_count s.views) v v.channel 0 v.backing v.leaving f f.one_channel (let c = f.one_visit in omega arith) f.backing_shut),
      refl,
    )

pub looks : (all slots id : ℕ) (me : Sat) → 1 ≤ me.0.seats → Allows (Tied all) slots id me latch_word (λ n. n) (LooksAtShut (step slots latch_word 0 0 none) me)
looks all slots id me some_seat s h _ at small =
    let v = me.0 in
    let n : ℕ = slice_index s.words latch_word in
    let r = reads all s h in
    let is = r.is in
    let bit = r.bit in
    let f = h.each id v at in
    dite (ℕ_discrete (shut_bit n) 0)
    (λ unshut. (
      view_usable v,
      keeps,
      tt,
      moved all s id v (view_usable v) n me.1 h at refl refl refl refl refl refl (omega arith) (λ z. absurd (omega arith))
          (found_open all (total begun_count s.views) v (v.looks + 1) f some_seat),
      record { usable = λ _. (refl, (f.found_shut (omega arith), (let b = at_le begun_count s.views id v at in omega arith))); shut = λ not. absurd (not unshut) },
    ))
    (λ shut. (
      record (view_found v) { looks = v.looks + 1 },
      keeps,
      tt,
      moved all s id v (record (view_found v) { looks = v.looks + 1 }) n me.1 h at refl refl refl refl refl refl (omega arith) (λ _. (omega arith, refl))
          (grown all (total begun_count s.views) v v.gives (v.looks + 1) (v.found + 1) v.tries v.seen f (λ z. shut (omega arith)) (omega arith) f.few_gives),
      record { usable = λ unshut. absurd (shut unshut); shut = λ _. refl },
    ))
