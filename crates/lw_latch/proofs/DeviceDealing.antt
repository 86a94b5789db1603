-- Seats of a device's latch are split off and joined, and one that stands for all learns what the word says.
use Rattle.std.proofs.Common.{◌≡◌, ◌==◌, ◌≢◌, ℕ, ◌+◌, ◌≤◌, if◌then◌else◌, List, [], ◌∷◌, ◌++◌, set, refl, sym, ap, ◌∙◌, subst, ⊎_elim, arith, slice_index, eq-eqb, ne_eqb, length-append}
use mathlib.Core.Option.{none, some}
use mathlib.Core.Logic.{dite}
use native.Mathlib.Decide.{ℕ_discrete}
use lib.ListN.{get_elem?}
use Rattle.atomic_table.specs.Table.{keeps, step, Allows, Splits, Joins}
use Rattle.atomic_table.proofs.Lists.{at_set, at_snoc, set_else}
use Rattle.lw_latch.specs.declared.device_view.DeviceView.{DeviceView}
use Rattle.lw_base.specs.Totals.{total}
use Rattle.lw_latch.specs.OwnLine.{latch_word, alone}
use Rattle.lw_latch.specs.DeviceWord.{seats, given_count, backing_count, begun_count, count, opens, opens_then, fired_count, held_count, open_count, times_given, Suits, Tied, idle_view, one_seat, less_one_seat, both_views, spent_device, Sat, LearnsAll}
use Rattle.lw_base.proofs.Totals.{total_set, total_snoc, at_le, times_append}
use Rattle.lw_latch.proofs.DeviceMoves.{reads, moved}
use Rattle.lw_latch.proofs.DeviceTelling.{tells}

pub splits : (all id : ℕ) (v : DeviceView) → 2 ≤ v.seats → v ≡ idle_view v.all v.seats → Splits (Tied all) id v (less_one_seat v) (one_seat v)
splits all id v some_seats idle s h at =
    let w : DeviceView = less_one_seat v in
    let u : DeviceView = one_seat v in
    let vs : List DeviceView = set s.views id w in
    let ts = total_set seats s.views id v w at in
    let tg = total_set given_count s.views id v w at in
    let tk = total_set backing_count s.views id v w at in
    let tb = total_set begun_count s.views id v w at in
    let tc = total_set count s.views id v w at in
    let tn = total_set opens s.views id v w at in
    let tm = total_set opens_then s.views id v w at in
    let tf = total_set fired_count s.views id v w at in
    let th = total_set held_count s.views id v w at in
    let to = total_set open_count s.views id v w at in
    let ns = total_snoc seats vs u in
    let ng = total_snoc given_count vs u in
    let nk = total_snoc backing_count vs u in
    let nb = total_snoc begun_count vs u in
    let nc = total_snoc count vs u in
    let nn = total_snoc opens vs u in
    let nm = total_snoc opens_then vs u in
    let nf = total_snoc fired_count vs u in
    let nh = total_snoc held_count vs u in
    let no = total_snoc open_count vs u in
    let a = h.all_seats in
    let once = h.one_begun in
    let f = h.each id v at in
    let no_channel = ap (λ (x : DeviceView). x.channel) idle in
    let no_visit = ap (λ (x : DeviceView). x.visit) idle in
    let no_backing = ap (λ (x : DeviceView). x.backing) idle in
    let no_leaving = ap (λ (x : DeviceView). x.leaving) idle in
    let no_begun = ap (λ (x : DeviceView). x.begun) idle in
    let none_given = ap given_count idle in
    let same : total begun_count (vs ++ u ∷ []) ≡ total begun_count s.views = omega arith in
    let again : (k : ℕ) → total (times_given k) (vs ++ u ∷ []) ≡ total (times_given k) s.views = λ k. (let t = total_set (times_given k) s.views id v w at in let n = total_snoc (times_given k) vs u in omega arith) in
    record {
      few = h.few;
      all_seats = omega arith;
      word = h.word ∙ ap alone (omega arith);
      one_begun = omega arith;
      settled = λ z. (let o = h.settled (omega arith) in omega arith);
      before = λ z. (let o = h.before (omega arith) in omega arith);
      quiet = λ z. (let o = h.quiet (omega arith) in omega arith);
      once = λ k l. again k ∙ h.once k (omega arith);
      none_else = λ k l. again k ∙ h.none_else k (omega arith);
      each = λ j y e. subst (λ k. Suits all k y) (sym same) (⊎_elim
          (λ (here : get_elem? vs j ≡ some y). ⊎_elim
          (λ (x : (j ≡ id) × (w ≡ y)). subst (λ z. Suits all (total begun_count s.views) z) x.1
          (record {
            of_latch = λ _. f.of_latch (omega arith);
            one_channel = omega arith;
            one_visit = omega arith;
            few_gives = f.few_gives;
            few_given = λ _. omega arith;
            none_given = λ z. absurd (omega arith);
            began = omega arith;
            counts = f.counts;
            fired_begun = f.fired_begun;
            found_shut = f.found_shut;
            backing_shut = f.backing_shut;
          }))
          (λ (x : (j ≢ id) × (get_elem? s.views j ≡ some y)). h.each j y x.1)
          (at_set s.views id j w y here))
          (λ (new : u ≡ y). subst (λ z. Suits all (total begun_count s.views) z) new
          (record {
            of_latch = λ _. f.of_latch (omega arith);
            one_channel = omega arith;
            one_visit = omega arith;
            few_gives = omega arith;
            few_given = λ _. omega arith;
            none_given = λ z. absurd (omega arith);
            began = omega arith;
            counts = λ _. (refl, refl);
            fired_begun = omega arith;
            found_shut = λ _. refl;
            backing_shut = λ _. refl;
          }))
          (at_snoc vs u y j e));
    }

-- of two views of which one began at most, what that one keeps is the sum
known_by_one : (f : DeviceView → ℕ) (v u : DeviceView) → v.begun + u.begun ≤ 1 → (v.begun ≡ 0 → f v ≡ 0) → (u.begun ≡ 0 → f u ≡ 0) → (if v.begun == 0 then f u else f v) ≡ f v + f u
known_by_one f v u once fv fu = dite (ℕ_discrete v.begun 0)
    (λ not_v. ap (λ b. if b then f u else f v) (eq-eqb v.begun 0 not_v) ∙ (let z = fv not_v in omega arith))
    (λ by_v. ap (λ b. if b then f u else f v) (ne_eqb v.begun 0 by_v) ∙ (let z = fu (omega arith) in omega arith))

pub joins : (all id : ℕ) (v : DeviceView) (other : ℕ) (u : DeviceView) → 1 ≤ v.seats → 1 ≤ u.seats → Joins (Tied all) id v other u (both_views v u) spent_device
joins all id v other u some_v some_u s h at apart there =
    let w : DeviceView = both_views v u in
    let vs : List DeviceView = set s.views id w in
    let new : List DeviceView = set vs other spent_device in
    let was : get_elem? s.views other ≡ some u = ⊎_elim (λ (x : (other ≡ id) × (w ≡ u)). absurd (apart x.0)) (λ (x : (other ≢ id) × (get_elem? s.views other ≡ some u)). x.1) (at_set s.views id other w u there) in
    let ts = total_set seats s.views id v w at in
    let tg = total_set given_count s.views id v w at in
    let tk = total_set backing_count s.views id v w at in
    let tb = total_set begun_count s.views id v w at in
    let tc = total_set count s.views id v w at in
    let tn = total_set opens s.views id v w at in
    let tm = total_set opens_then s.views id v w at in
    let tf = total_set fired_count s.views id v w at in
    let th = total_set held_count s.views id v w at in
    let to = total_set open_count s.views id v w at in
    let ns = total_set seats vs other u spent_device there in
    let ng = total_set given_count vs other u spent_device there in
    let nk = total_set backing_count vs other u spent_device there in
    let nb = total_set begun_count vs other u spent_device there in
    let nc = total_set count vs other u spent_device there in
    let nn = total_set opens vs other u spent_device there in
    let nm = total_set opens_then vs other u spent_device there in
    let nf = total_set fired_count vs other u spent_device there in
    let nh = total_set held_count vs other u spent_device there in
    let no = total_set open_count vs other u spent_device there in
    let a = h.all_seats in
    let once = h.one_begun in
    let f = h.each id v at in
    let g = h.each other u was in
    let without = total_set begun_count s.views id v spent_device at in
    let left = at_le begun_count (set s.views id spent_device) other u (set_else s.views id other spent_device apart ∙ was) in
    let both_once : v.begun + u.begun ≤ 1 = omega arith in
    let counted = known_by_one count v u both_once (λ z. (f.counts z).0) (λ z. (g.counts z).0) in
    let known = known_by_one opens_then v u both_once (λ z. (f.counts z).1) (λ z. (g.counts z).1) in
    let long = length-append v.ordinals u.ordinals in
    let same : total begun_count new ≡ total begun_count s.views = omega arith in
    let again : (k : ℕ) → total (times_given k) new ≡ total (times_given k) s.views =
    λ k. (let t = total_set (times_given k) s.views id v w at in let n = total_set (times_given k) vs other u spent_device there in let e = times_append k v.ordinals u.ordinals in omega arith) in
    record {
      few = h.few;
      all_seats = omega arith;
      word = h.word ∙ ap alone (omega arith);
      one_begun = omega arith;
      settled = λ z. (let o = h.settled (omega arith) in omega arith);
      before = λ z. (let o = h.before (omega arith) in omega arith);
      quiet = λ z. (let o = h.quiet (omega arith) in omega arith);
      once = λ k l. again k ∙ h.once k (omega arith);
      none_else = λ k l. again k ∙ h.none_else k (omega arith);
      each = λ j y e. subst (λ k. Suits all k y) (sym same) (⊎_elim
          (λ (x : (j ≡ other) × (spent_device ≡ y)). subst (λ z. Suits all (total begun_count s.views) z) x.1
          (record {
            of_latch = λ z. absurd (omega arith);
            one_channel = omega arith;
            one_visit = omega arith;
            few_gives = omega arith;
            few_given = λ z. absurd (omega arith);
            none_given = λ _. (refl, refl);
            began = omega arith;
            counts = λ _. (refl, refl);
            fired_begun = omega arith;
            found_shut = λ _. refl;
            backing_shut = λ _. refl;
          }))
          (λ (x : (j ≢ other) × (get_elem? vs j ≡ some y)). ⊎_elim
          (λ (x' : (j ≡ id) × (w ≡ y)). subst (λ z. Suits all (total begun_count s.views) z) x'.1
          (record {
            of_latch = λ _. f.of_latch some_v;
            one_channel = (let p = f.one_channel in let q = g.one_channel in omega arith);
            one_visit = (let p = f.one_visit in let q = g.one_visit in omega arith);
            few_gives = f.few_gives;
            few_given = λ _. (let p = f.few_given some_v in let q = g.few_given some_u in let r = g.few_gives in omega arith);
            none_given = λ z. absurd (omega arith);
            began = (let p = f.began in let q = g.began in omega arith);
            counts = λ z. (let p = f.counts (omega arith) in let q = g.counts (omega arith) in ((let i = p.0 in let j = q.0 in omega arith), (let i = p.1 in let j = q.1 in omega arith)));
            fired_begun = (let p = f.fired_begun in let q = g.fired_begun in omega arith);
            found_shut = λ z. (let p = f.found_shut z in let q = g.found_shut z in omega arith);
            backing_shut = λ z. (let p = f.backing_shut z in let q = g.backing_shut z in omega arith);
          }))
          (λ (x' : (j ≢ id) × (get_elem? s.views j ≡ some y)). h.each j y x'.1)
          (at_set s.views id j w y x.1))
          (at_set vs other j spent_device y e));
    }

pub learns : (all slots id : ℕ) (me : Sat) → Allows (Tied all) slots id me latch_word (λ n. n) (LearnsAll (step slots latch_word 0 0 none) me)
learns all slots id me s h _ at small =
    let is = (reads all s h).is in (
      me.0,
      keeps,
      tt,
      moved all s id me.0 me.0 (slice_index s.words latch_word) me.1 h at refl refl refl refl refl refl (omega arith) (λ _. (omega arith, refl)) (h.each id me.0 at),
      record { same = refl; all = λ stands. tells all s id me.0 h at stands },
    )
