-- The rule holds of a new table, and seats are dealt out and gathered.
use Rattle.std.proofs.Common.{◌≡◌, ◌≢◌, ℕ, ◌+◌, ◌≤◌, min, List, [], ◌∷◌, ◌++◌, length, set, ap, subst, ◌∙◌, ⊎_elim, arith, All}
use Rattle.std.proofs.lemmas.List.Elements.{All-nil, All-cons, All-head, All-tail, All-append}
use mathlib.Core.Option.{some}
use lib.ListN.{get_elem?}
use Rattle.std.proofs.Common.{length-append}
use Rattle.atomic_table.specs.Table.{Splits, Joins}
use Rattle.atomic_table.proofs.Lists.{at_set, at_snoc}
use Rattle.lw_place.specs.declared.table.Stand.{Stand}
use Rattle.lw_place.specs.declared.table.Homes.{Homes}
use Rattle.lw_place.specs.declared.table.PlaceView.{PlaceView}
use Rattle.lw_base.specs.Totals.{total}
use Rattle.lw_place.specs.PlaceTable.{desks, retired, halted, thread_count, count_of, times, IsStanding, Fits, Placed, first_thread, less_first_thread, one_desk, less_one_desk, joined, spent_view, firsts, others}
use Rattle.lw_base.proofs.Totals.{total_set, total_snoc}
use Rattle.lw_place.proofs.Standing.{times_append, times_first, length_first}
use Rattle.lw_place.proofs.Rule.{St}

-- w and u stand together for what v stands for
record Parts (v w u : PlaceView) : Type 0 where
  desks : w.desks + u.desks ≡ v.desks
  retired : w.retired + u.retired ≡ v.retired
  halted : w.halted + u.halted ≡ v.halted
  count : length w.stands + length u.stands ≡ length v.stands
  times : (t : ℕ) → times t w.stands + times t u.stands ≡ times t v.stands

module _ (homes : Homes) where
  abbrev FitsIn : St → PlaceView → Type 0
  FitsIn s v = Fits (length homes.of.items) homes.reactors s.words (total retired s.views) (total halted s.views) v

  abbrev Stands : St → List Stand → Type 0
  Stands s xs = All (IsStanding (length homes.of.items) homes.reactors s.words) xs

  fits_as : (s : St) (done halts : ℕ) (v : PlaceView) → total retired s.views ≡ done → total halted s.views ≡ halts → FitsIn s v → Fits (length homes.of.items) homes.reactors s.words done halts v
  fits_as s done halts v d e f = record { of_table = f.of_table; standing = f.standing; retired_desks = f.retired_desks; halted_desks = f.halted_desks; done_seen = (let a = f.done_seen in omega arith); halt_seen = (let a = f.halt_seen in omega arith) }

  dealt : (s : St) (id : ℕ) (v w u : PlaceView) → Placed homes s → get_elem? s.views id ≡ some v → Parts v w u → FitsIn s w → FitsIn s u
      → Placed homes (record { words = s.words; homes = s.homes; views = set s.views id w ++ u ∷ [] })
  dealt s id v w u h at p fw fu =
      let vs : List PlaceView = set s.views id w in
      let new : List PlaceView = vs ++ u ∷ [] in
      let pd = p.desks in
      let pr = p.retired in
      let ph = p.halted in
      let ps = p.count in
      let td = total_set desks s.views id v w at in
      let tr = total_set retired s.views id v w at in
      let th = total_set halted s.views id v w at in
      let ts = total_set thread_count s.views id v w at in
      let sd = total_snoc desks vs u in
      let sr = total_snoc retired vs u in
      let sh = total_snoc halted vs u in
      let ss = total_snoc thread_count vs u in
      let done : total retired s.views ≡ total retired new = omega arith in
      let halts : total halted s.views ≡ total halted new = omega arith in
      record {
        few = h.few;
        words = h.words;
        done = h.done ∙ done;
        halt = h.halt ∙ ap (λ k. min 1 k) halts;
        all_desks = (let a = h.all_desks in omega arith);
        all_threads_stand = (let a = h.all_threads_stand in omega arith);
        stands_once = λ t b. (let tt = total_set (count_of t) s.views id v w at in let st = total_snoc (count_of t) vs u in let q = p.times t in let a = h.stands_once t b in omega arith);
        each = λ j y e. fits_as s (total retired new) (total halted new) y done halts
            (⊎_elim
            (λ (here : get_elem? vs j ≡ some y). ⊎_elim
            (λ (x : (j ≡ id) × (w ≡ y)). subst (FitsIn s) x.1 fw)
            (λ (x : (j ≢ id) × (get_elem? s.views j ≡ some y)). h.each j y x.1)
            (at_set s.views id j w y here))
            (λ (last : u ≡ y). subst (FitsIn s) last fu)
            (at_snoc vs u y j e));
      }

  pub deals_thread : (id : ℕ) (v : PlaceView) → Splits (Placed homes) id v (less_first_thread v) (first_thread v)
  deals_thread id v s h at =
      let g = h.each id v at in
      dealt s id v (less_first_thread v) (first_thread v) h at
      (record { desks = omega arith; retired = omega arith; halted = omega arith; count = length_first v.stands; times = λ t. times_first t v.stands })
      (record { of_table = g.of_table; standing = rest v.stands g.standing; retired_desks = g.retired_desks; halted_desks = g.halted_desks; done_seen = g.done_seen; halt_seen = g.halt_seen })
      (record { of_table = g.of_table; standing = first v.stands g.standing; retired_desks = omega arith; halted_desks = omega arith; done_seen = omega arith; halt_seen = omega arith })
    where
      rest : (xs : List Stand) → Stands s xs → Stands s (others xs)
      rest [] k = k
      rest (x ∷ xs) k = All-tail (IsStanding (length homes.of.items) homes.reactors s.words) x xs k

      first : (xs : List Stand) → Stands s xs → Stands s (firsts xs)
      first [] k = k
      first (x ∷ xs) k = let P = IsStanding (length homes.of.items) homes.reactors s.words in All-cons P x [] (All-head P x xs k) (All-nil P)

  pub deals_desk : (id : ℕ) (v : PlaceView) → 1 ≤ v.desks → v.retired ≡ 0 → v.halted ≡ 0 → Splits (Placed homes) id v (less_one_desk v) (one_desk v)
  deals_desk id v some_desk idle going s h at =
      let g = h.each id v at in
      dealt s id v (less_one_desk v) (one_desk v) h at
      (record { desks = omega arith; retired = omega arith; halted = omega arith; count = omega arith; times = λ t. omega arith })
      (record { of_table = g.of_table; standing = g.standing; retired_desks = omega arith; halted_desks = omega arith; done_seen = g.done_seen; halt_seen = g.halt_seen })
      (record { of_table = g.of_table; standing = All-nil (IsStanding (length homes.of.items) homes.reactors s.words); retired_desks = omega arith; halted_desks = omega arith; done_seen = omega arith; halt_seen = omega arith })

  pub joins : (id : ℕ) (v : PlaceView) (other : ℕ) (u : PlaceView) → Joins (Placed homes) id v other u (joined v u) spent_view
  joins id v other u s h at apart there =
      let w : PlaceView = joined v u in
      let vs : List PlaceView = set s.views id w in
      let new : List PlaceView = set vs other spent_view in
      let was : get_elem? s.views other ≡ some u = ⊎_elim (λ (x : (other ≡ id) × (w ≡ u)). absurd (apart x.0)) (λ (x : (other ≢ id) × (get_elem? s.views other ≡ some u)). x.1) (at_set s.views id other w u there) in
      let f = h.each id v at in
      let g = h.each other u was in
      let long = length-append v.stands u.stands in
      let td = total_set desks s.views id v w at in
      let tr = total_set retired s.views id v w at in
      let th = total_set halted s.views id v w at in
      let ts = total_set thread_count s.views id v w at in
      let sd = total_set desks vs other u spent_view there in
      let sr = total_set retired vs other u spent_view there in
      let sh = total_set halted vs other u spent_view there in
      let ss = total_set thread_count vs other u spent_view there in
      let done : total retired s.views ≡ total retired new = omega arith in
      let halts : total halted s.views ≡ total halted new = omega arith in
      let P = IsStanding (length homes.of.items) homes.reactors s.words in
      let fits : FitsIn s w = record {
        of_table = f.of_table;
        standing = All-append P v.stands u.stands f.standing g.standing;
        retired_desks = (let a = f.retired_desks in let b = g.retired_desks in omega arith);
        halted_desks = (let a = f.halted_desks in let b = g.halted_desks in omega arith);
        done_seen = (let a = f.done_seen in let b = g.done_seen in omega arith);
        halt_seen = (let a = f.halt_seen in let b = g.halt_seen in omega arith);
      } in
      let spent : FitsIn s spent_view = record { of_table = λ some_threads. absurd (omega arith); standing = All-nil P; retired_desks = omega arith; halted_desks = omega arith; done_seen = omega arith; halt_seen = omega arith } in
      record {
        few = h.few;
        words = h.words;
        done = h.done ∙ done;
        halt = h.halt ∙ ap (λ k. min 1 k) halts;
        all_desks = (let a = h.all_desks in omega arith);
        all_threads_stand = (let a = h.all_threads_stand in omega arith);
        stands_once = λ t b. (let tt = total_set (count_of t) s.views id v w at in let st = total_set (count_of t) vs other u spent_view there in let q = times_append t v.stands u.stands in let a = h.stands_once t b in omega arith);
        each = λ j y e. fits_as s (total retired new) (total halted new) y done halts
            (⊎_elim
            (λ (x : (j ≡ other) × (spent_view ≡ y)). subst (FitsIn s) x.1 spent)
            (λ (x : (j ≢ other) × (get_elem? vs j ≡ some y)). ⊎_elim
            (λ (x' : (j ≡ id) × (w ≡ y)). subst (FitsIn s) x'.1 fits)
            (λ (x' : (j ≢ id) × (get_elem? s.views j ≡ some y)). h.each j y x'.1)
            (at_set s.views id j w y x.1))
            (at_set vs other j spent_view y e));
      }
