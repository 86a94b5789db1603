-- What the rule of a device's latch bounds, and that it is kept where one view changes.
use Rattle.std.proofs.Common.{◌≡◌, ◌≢◌, ℕ, ◌+◌, ◌*◌, ◌^◌, ◌<◌, ◌≤◌, List, [], length, set, refl, sym, ap, ◌∙◌, subst, ⊎_elim, arith, slice_index}
use mathlib.Core.Option.{some, some-ne-none}
use mathlib.Core.Logic.{dite}
use native.Mathlib.Decide.{ℕ_discrete}
use lib.ListN.{get_elem?}
use Rattle.atomic_table.specs.Table.{State, keeps, stepped, opening}
use Rattle.atomic_table.proofs.Lists.{at_set, at_snoc}
use Rattle.lw_latch.specs.declared.device_view.DeviceView.{DeviceView}
use Rattle.lw_base.specs.Totals.{total, times}
use Rattle.lw_latch.specs.OwnLine.{latch_word, alone}
use Rattle.lw_latch.specs.DeviceWord.{most_seats, most_gives, given_unit, word_given, seats, given_count, backing_count, begun_count, count, opens, opens_then, fired_count, held_count, open_count, times_given, device_word, Suits, Tied, first_view, shut_bit}
use Rattle.lw_base.proofs.Totals.{total_set, total_le, total_scaled, total_zero}

abbrev pub St : Type 0
St = State (Unit {0}) DeviceView

-- the bounds that the rule gives
pub record Bounded (vs : List DeviceView) : Type 0 where
  pub few_open : total open_count vs ≤ 2 * most_seats
  pub few_backing : total backing_count vs ≤ most_seats
  pub few_given : total given_count vs ≤ most_seats * most_gives
  pub fired_begun : total fired_count vs ≤ total begun_count vs
  pub held_opened : total held_count vs ≤ total open_count vs

pub bounded : (all : ℕ) (s : St) → Tied all s → Bounded s.views
bounded all s h =
    let vs = s.views in
    let some_all = h.all_seats in
    let few = h.few in
    let o = total_le open_count (λ v. 2 * v.seats) vs (λ i v e. (let f = h.each i v e in let a = f.one_channel in let b = f.one_visit in omega arith)) in
    let os = total_scaled 2 seats vs in
    let b = total_le backing_count seats vs (λ i v e. (let a = (h.each i v e).one_channel in omega arith)) in
    let g = total_le given_count (λ v. most_gives * v.seats) vs (λ i v e. given_few v (h.each i v e)) in
    let gs = total_scaled most_gives seats vs in
    record {
      few_open = omega arith;
      few_backing = omega arith;
      few_given = omega arith;
      fired_begun = total_le fired_count begun_count vs (λ i v e. (h.each i v e).fired_begun);
      held_opened = total_le held_count open_count vs (λ i v e. omega arith);
    }
  where
    given_few : (v : DeviceView) → Suits all (total begun_count s.views) v → given_count v ≤ most_gives * v.seats
    given_few v f = dite (ℕ_discrete v.seats 0)
        (λ none. (let z = (f.none_given none).0 in omega arith))
        (λ some_seat. (let g = f.few_given (omega arith) in let c = f.few_gives in omega arith))

pub word_found : (all : ℕ) (s : St) → Tied all s → slice_index s.words latch_word ≡ device_word s.views
word_found all s h = ap (λ l. slice_index l latch_word) h.word

-- before the latch is shut nobody takes anything back
pub none_backing : (all : ℕ) (s : St) → Tied all s → total begun_count s.views ≡ 0 → total backing_count s.views ≡ 0
none_backing all s h unshut = total_zero backing_count s.views (λ i v e. (let b = (h.each i v e).backing_shut unshut in omega arith))

-- what a word's parts are
pub record Read (all : ℕ) (s : St) (n : ℕ) : Type 0 where
  pub is : n ≡ device_word s.views
  pub bit : shut_bit n ≡ total begun_count s.views
  pub fits : n < 2 ^ 63
  pub unshut : total begun_count s.views ≡ 0 → word_given n ≡ total given_count s.views
  pub unbacked : total begun_count s.views ≡ 0 → total backing_count s.views ≡ 0
  pub unfired : total begun_count s.views ≡ 0 → total fired_count s.views ≡ 0

pub reads : (all : ℕ) (s : St) → Tied all s → Read all s (slice_index s.words latch_word)
reads all s h =
    let n : ℕ = slice_index s.words latch_word in
    let w = word_found all s h in
    let b = bounded all s h in
    let o = b.few_open in
    let k = b.few_backing in
    let g = b.few_given in
    let f = b.fired_begun in
    let once = h.one_begun in
    record {
      is = w;
      bit = omega arith;
      fits = omega arith;
      unshut = λ z. (let none = none_backing all s h z in omega arith);
      unbacked = λ z. none_backing all s h z;
      unfired = λ z. omega arith;
    }

-- one view changes in what it has open, or in what it knows
pub moved : (all : ℕ) (s : St) (id : ℕ) (v w : DeviceView) (n : ℕ) (c : List (ℕ × Unit {0})) → Tied all s → get_elem? s.views id ≡ some v
    → w.seats ≡ v.seats → w.ordinals ≡ v.ordinals → w.begun ≡ v.begun → w.count ≡ v.count → w.opens_then ≡ v.opens_then → w.fired ≡ v.fired
    → n + open_count v + given_unit * v.backing ≡ device_word s.views + open_count w + given_unit * w.backing
    → (1 ≤ total begun_count s.views → (held_count w ≤ held_count v) × (w.opens ≡ v.opens))
    → Suits all (total begun_count s.views) w
    → Tied all (stepped s latch_word n id c w keeps)
moved all s id v w n c h at p o be co ot fi is stays suits =
    let vs : List DeviceView = set s.views id w in
    let ts = total_set seats s.views id v w at in
    let tg = total_set given_count s.views id v w at in
    let tk = total_set backing_count s.views id v w at in
    let tb = total_set begun_count s.views id v w at in
    let tc = total_set count s.views id v w at in
    let tn = total_set opens s.views id v w at in
    let tm = total_set opens_then s.views id v w at in
    let tf = total_set fired_count s.views id v w at in
    let th = total_set held_count s.views id v w at in
    let to = total_set open_count s.views id v w at in
    let lg = ap length o in
    let a = h.all_seats in
    let once = h.one_begun in
    let b = (bounded all s h).fired_begun in
    let same : total begun_count vs ≡ total begun_count s.views = omega arith in
    let same_given : total given_count vs ≡ total given_count s.views = omega arith in
    let sum : n ≡ device_word vs = omega arith in
    let again : (k : ℕ) → total (times_given k) vs ≡ total (times_given k) s.views = λ k. (let t = total_set (times_given k) s.views id v w at in let e = ap (times k) o in omega arith) in
    record {
      few = h.few;
      all_seats = omega arith;
      word = ap (λ l. set l latch_word n) h.word ∙ ap alone sum;
      one_begun = omega arith;
      settled = λ z. (let old = h.settled (omega arith) in omega arith);
      before = λ z. (let old = h.before (omega arith) in let still = (stays (omega arith)).1 in omega arith);
      quiet = λ z. (let old = h.quiet (omega arith) in let still = (stays (omega arith)).0 in omega arith);
      once = λ k l. again k ∙ h.once k (omega arith);
      none_else = λ k l. again k ∙ h.none_else k (omega arith);
      each = λ j u e. subst (λ k. Suits all k u) (sym same)
          (⊎_elim (λ (x : (j ≡ id) × (w ≡ u)). subst (λ y. Suits all (total begun_count s.views) y) x.1 suits) (λ (x : (j ≢ id) × (get_elem? s.views j ≡ some u)). h.each j u x.1) (at_set s.views id j w u e));
    }

pub begins : (all : ℕ) → all ≤ most_seats → Tied all (opening (alone 0) [] (first_view all))
begins all few =
    record {
      few = few;
      all_seats = omega arith;
      word = refl;
      one_begun = omega arith;
      settled = λ z. absurd (omega arith);
      before = λ z. absurd (omega arith);
      quiet = λ z. absurd (omega arith);
      once = λ k l. absurd (omega arith);
      none_else = λ k l. refl;
      each = λ j u e. ⊎_elim (λ (x : get_elem? {A = DeviceView} [] j ≡ some u). absurd (some-ne-none u (sym x)))
          (λ (x : first_view all ≡ u). subst (λ y. Suits all 0 y) x (idle_suits all))
          (at_snoc [] (first_view all) u j e);
    }
  where
    idle_suits : (all : ℕ) → Suits all 0 (first_view all)
    idle_suits all = record {
      of_latch = λ _. refl;
      one_channel = omega arith;
      one_visit = omega arith;
      few_gives = omega arith;
      few_given = λ some_seat. omega arith;
      none_given = λ _. (refl, refl);
      began = omega arith;
      counts = λ _. (refl, refl);
      fired_begun = omega arith;
      found_shut = λ _. refl;
      backing_shut = λ _. refl;
    }
