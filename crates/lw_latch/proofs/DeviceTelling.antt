-- What the word of a device's latch says to a seat that stands for all.
use Rattle.std.proofs.Common.{◌≡◌, ◌≢◌, ℕ, ◌+◌, ◌/◌, ◌%◌, ◌≤◌, true, false, true≢false, eqb, List, [], ◌∷◌, length, refl, sym, ap, ◌∙◌, arith, slice_index, eq-eqb}
use mathlib.Core.Option.{some}
use mathlib.Core.Logic.{dite}
use native.Mathlib.Decide.{ℕ_discrete}
use lib.ListN.{get_elem?}
use Rattle.lw_latch.specs.declared.device_view.DeviceView.{DeviceView}
use Rattle.lw_base.specs.Totals.{total, times}
use Rattle.lw_latch.specs.OwnLine.{latch_word}
use Rattle.lw_latch.specs.DeviceWord.{fired_unit, word_given, closing_word, seats, given_count, backing_count, begun_count, count, opens, opens_then, fired_count, held_count, open_count, times_given, Tied, Tells, StandsForAll}
use Rattle.lw_base.proofs.Totals.{total_only, others_none}
use Rattle.lw_latch.proofs.DeviceMoves.{St, bounded, reads}

times_none : (k : ℕ) (xs : List ℕ) → length xs ≡ 0 → times k xs ≡ 0
times_none k [] e = refl
times_none k (x ∷ xs) e = absurd (omega arith)

-- where a view stands for all seats, no other has anything
pub tells : (all : ℕ) (s : St) (id : ℕ) (v : DeviceView) → Tied all s → get_elem? s.views id ≡ some v → StandsForAll v → Tells v (slice_index s.words latch_word)
tells all s id v h at stands =
    let f = h.each id v at in
    let of = f.of_latch stands.0 in
    let has_all = stands.1 in
    let a = h.all_seats in
    let none : (j : ℕ) (u : DeviceView) → j ≢ id → get_elem? s.views j ≡ some u → u.seats ≡ 0 = others_none seats s.views id v at (omega arith) in
    let to = total_only open_count s.views id v at (λ j u apart e. (let z = none j u apart e in let g = h.each j u e in let p = g.one_channel in let q = g.one_visit in omega arith)) in
    let tk = total_only backing_count s.views id v at (λ j u apart e. (let z = none j u apart e in let p = (h.each j u e).one_channel in omega arith)) in
    let th = total_only held_count s.views id v at (λ j u apart e. (let z = none j u apart e in let g = h.each j u e in let p = g.one_channel in let q = g.one_visit in omega arith)) in
    let tg = total_only given_count s.views id v at (λ j u apart e. ((h.each j u e).none_given (none j u apart e)).0) in
    let tn = total_only opens s.views id v at (λ j u apart e. ((h.each j u e).none_given (none j u apart e)).1) in
    let tb = total_only begun_count s.views id v at (λ j u apart e. (let z = none j u apart e in let p = (h.each j u e).began in omega arith)) in
    let tc = total_only count s.views id v at (λ j u apart e. (let z = none j u apart e in let g = h.each j u e in let p = g.began in (g.counts (omega arith)).0)) in
    let tm = total_only opens_then s.views id v at (λ j u apart e. (let z = none j u apart e in let g = h.each j u e in let p = g.began in (g.counts (omega arith)).1)) in
    let tf = total_only fired_count s.views id v at (λ j u apart e. (let z = none j u apart e in let g = h.each j u e in let p = g.began in let q = g.fired_begun in omega arith)) in
    let tt' : (k : ℕ) → total (times_given k) s.views ≡ times k v.ordinals = λ k. total_only (times_given k) s.views id v at (λ j u apart e. times_none k u.ordinals ((h.each j u e).none_given (none j u apart e)).0) in
    let is = (reads all s h).is in
    let few = (bounded all s h).few_open in
    let once = h.one_begun in
    record {
      own = omega arith;
      few_open = omega arith;
      whole = record {
        ordinals = record { once = λ k l. sym (tt' k) ∙ h.once k (omega arith); none_else = λ k l. sym (tt' k) ∙ h.none_else k (omega arith) };
        found = λ some_found. dite (ℕ_discrete (total begun_count s.views) 0) (λ z. absurd (let p = f.found_shut z in omega arith)) (λ nz. omega arith);
        begun = omega arith;
        settled = λ z. (let o = h.settled (omega arith) in omega arith);
        before = λ z. (let o = h.before (omega arith) in omega arith);
        fired = f.fired_begun;
        quiet = λ z. (let o = h.quiet (omega arith) in omega arith);
      };
    }

-- what its count of given channels says
pub all_given : (v : DeviceView) (word : ℕ) → v.backing ≡ 0 → Tells v word → word_given word ≡ length v.ordinals
all_given v word none_backing t =
    let is = t.own in
    let few = t.few_open in
    let once = t.whole.begun in
    let fires = t.whole.fired in
    omega arith

-- what its fired bit says
pub all_fired : (v : DeviceView) (word : ℕ) → v.backing ≡ 0 → Tells v word
    → (eqb (word / fired_unit % 2) 1 ≡ true → v.fired ≡ 1) × (eqb (word / fired_unit % 2) 1 ≡ false → v.fired ≡ 0)
all_fired v word none_backing t =
    let is = t.own in
    let few = t.few_open in
    let once = t.whole.begun in
    let fires = t.whole.fired in
    let bit : word / fired_unit % 2 ≡ v.fired = omega arith in
    dite (ℕ_discrete v.fired 0)
    (λ unfired. ((λ yes. absurd (true≢false (sym yes ∙ ap (λ k. eqb k 1) (bit ∙ unfired)))), λ _. unfired))
    (λ has. ((λ _. omega arith), λ no. absurd (true≢false (sym (eq-eqb (word / fired_unit % 2) 1 (omega arith)) ∙ no))))

-- where it isn't the word that a latch fires at, something is open or it has fired
pub all_held : (v : DeviceView) (word : ℕ) → v.backing ≡ 0 → v.leaving ≡ 0 → 1 ≤ v.begun → Tells v word → word ≢ closing_word v.count → 1 ≤ held_count v + v.fired
all_held v word none_backing none_leaving began t differs =
    let is = t.own in
    let once = t.whole.begun in
    let given = t.whole.settled (omega arith) in
    dite (ℕ_discrete (held_count v + v.fired) 0)
    (λ none. absurd (differs (omega arith)))
    (λ some_held. omega arith)
