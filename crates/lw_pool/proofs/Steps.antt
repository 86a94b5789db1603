-- Each kind of step keeps the rule of the queue.
use Rattle.std.proofs.Common.{◌≡◌, ◌≢◌, ℕ, ◌+◌, ◌<◌, ◌≤◌, List, [], ◌∷◌, ◌++◌, length, set, refl, sym, subst, ⊎_elim, arith, All, length-append}
use Rattle.std.proofs.lemmas.List.Elements.{All-nil, All-cons, All-head, All-tail, All-append}
use mathlib.Core.Option.{some, some-ne-none}
use lib.ListN.{get_elem?}
use Rattle.std.specs.declared.alloc.Global.{Global}
use Rattle.std.specs.declared.vec.Vec.{Vec}
use Rattle.crossbeam_queue.specs.Fifo.{Pushes, Pops, Forks, Merges, Learns}
use Rattle.crossbeam_queue.proofs.Lists.{at_set, at_snoc}
use Rattle.lw_base.proofs.Totals.{total_set, total_snoc, at_le, others_none, total_only}
use Rattle.lw_pool.specs.declared.queue.PoolView.{PoolView}
use Rattle.lw_pool.specs.Sizes.{most_users}
use Rattle.lw_pool.specs.PoolRule.{parts, lent, first_view, idle, Fits, Kept, Stocks, Takes, Gives, Counts, less_one_part, one_part, joined}

abbrev Bytes : Type 0
Bytes = Vec ℕ Global

-- what holds of each view after one has changed
each_set : (Q : PoolView → Type 0) (views : List PoolView) (i : ℕ) (w : PoolView) → Q w → ((j : ℕ) (u : PoolView) → j ≢ i → get_elem? views j ≡ some u → Q u)
    → (j : ℕ) (u : PoolView) → get_elem? (set views i w) j ≡ some u → Q u
each_set Q views i w mine others j u e = ⊎_elim (λ (x : (j ≡ i) × (w ≡ u)). subst Q x.1 mine)
    (λ (x : (j ≢ i) × (get_elem? views j ≡ some u)). others j u x.0 x.1) (at_set views i j w u e)

module _ (size : ℕ) where
  K : List Bytes → List PoolView → Type 0
  K = Kept size

  pub begins : Kept size [] (first_view ∷ [])
  begins = record {
    count = 0;
    home_or_lent = refl;
    all_parts = refl;
    sizes = All-nil (λ (b : Bytes). length b.items ≡ size);
    each = λ j u e. ⊎_elim (λ (x : get_elem? {A = PoolView} [] j ≡ some u). absurd (some-ne-none u (sym x)))
        (λ (x : first_view ≡ u). subst (Fits 0) x (record { knows = λ _. refl; gave_what_it_took = omega arith; idle_has_none = λ _. refl }))
        (at_snoc [] first_view u j e);
  }

  pub stocks : (n pass : ℕ) (v : PoolView) (b : Bytes) → v.parts ≡ most_users → length b.items ≡ size → Pushes (Kept size) n pass v b (Stocks v b)
  stocks n pass v b all long items views room h at =
      let P : Bytes → Type 0 = λ c. length c.items ≡ size in
      let w : PoolView = record v { count = v.count + 1 } in
      let g = h.each pass v at in
      let tp = total_set parts views pass v w at in
      let tl = total_set lent views pass v w at in
      let ap = h.all_parts in
      let hl = h.home_or_lent in
      let longer = length-append items (b ∷ []) in (
        w,
        record {
          count = h.count + 1;
          home_or_lent = omega arith;
          all_parts = omega arith;
          sizes = All-append P items (b ∷ []) h.sizes (All-cons P b [] long (All-nil P));
          each = each_set (Fits (h.count + 1)) views pass w
              (record { knows = λ some_parts. (let k = g.knows some_parts in omega arith); gave_what_it_took = g.gave_what_it_took; idle_has_none = g.idle_has_none })
              (λ j u apart e.
              (let none = others_none parts views pass v at (omega arith) j u apart e in
              let f = h.each j u e in
              record { knows = λ some_parts. absurd (omega arith); gave_what_it_took = f.gave_what_it_took; idle_has_none = f.idle_has_none }));
        },
        refl,
      )

  -- the view of one pass changes, and stands for as much as before
  kept : (items items' : List Bytes) (views : List PoolView) (pass : ℕ) (v w : PoolView) (h : Kept size items views) → get_elem? views pass ≡ some v
      → w.parts ≡ v.parts → Fits h.count w → length items' + lent w ≡ length items + lent v → All (λ b. length b.items ≡ size) items' → Kept size items' (set views pass w)
  kept items items' views pass v w h at same fits now sizes =
      let tp = total_set parts views pass v w at in
      let tl = total_set lent views pass v w at in
      let ap = h.all_parts in
      let hl = h.home_or_lent in
      record {
        count = h.count;
        home_or_lent = omega arith;
        all_parts = omega arith;
        sizes = sizes;
        each = each_set (Fits h.count) views pass w fits (λ j u _ e. h.each j u e);
      }

  pub takes : (pass : ℕ) (v : PoolView) → 1 ≤ v.parts → Pops (Kept size) pass v (Takes size v)
  takes pass v some_parts b items views h at =
      let P : Bytes → Type 0 = λ c. length c.items ≡ size in
      let w : PoolView = record v { taken = v.taken + 1 } in
      let g = h.each pass v at in
      let gave = g.gave_what_it_took in
      let there = at_le lent views pass v at in
      let hl = h.home_or_lent in
      let k = g.knows some_parts in (
        w,
        kept (b ∷ items) items views pass v w h at refl
            (record { knows = g.knows; gave_what_it_took = omega arith; idle_has_none = λ none. absurd (omega arith) })
            (omega arith) (All-tail P b items h.sizes),
        (refl, All-head P b items h.sizes, omega arith),
      )

  pub gives : (n pass : ℕ) (v : PoolView) (b : Bytes) → 1 ≤ v.parts → v.given < v.taken → length b.items ≡ size → Pushes (Kept size) n pass v b (Gives v b)
  gives n pass v b some_parts out long items views room h at =
      let P : Bytes → Type 0 = λ c. length c.items ≡ size in
      let w : PoolView = record v { given = v.given + 1 } in
      let g = h.each pass v at in
      let longer = length-append items (b ∷ []) in (
        w,
        kept items (items ++ b ∷ []) views pass v w h at refl
            (record { knows = g.knows; gave_what_it_took = omega arith; idle_has_none = λ none. absurd (omega arith) })
            (omega arith) (All-append P items (b ∷ []) h.sizes (All-cons P b [] long (All-nil P))),
        refl,
      )

  -- a view is split in two, which stand for as much as the one
  split : (pass : ℕ) (v w u : PoolView) → w.parts + u.parts ≡ v.parts → lent w + lent u ≡ lent v → ((count : ℕ) → Fits count v → Fits count w) → ((count : ℕ) → Fits count v → Fits count u)
      → Forks (Kept size) pass v w u
  split pass v w u all out left right items views h at =
      let vs : List PoolView = set views pass w in
      let tp = total_set parts views pass v w at in
      let tl = total_set lent views pass v w at in
      let sp = total_snoc parts vs u in
      let sl = total_snoc lent vs u in
      let ap = h.all_parts in
      let hl = h.home_or_lent in
      let g = h.each pass v at in
      record {
        count = h.count;
        home_or_lent = omega arith;
        all_parts = omega arith;
        sizes = h.sizes;
        each = λ j y e. ⊎_elim
            (λ (here : get_elem? vs j ≡ some y). each_set (Fits h.count) views pass w (left h.count g) (λ k x _ f. h.each k x f) j y here)
            (λ (last : u ≡ y). subst (Fits h.count) last (right h.count g))
            (at_snoc vs u y j e);
      }

  fits_idle : (count : ℕ) → Fits count idle
  fits_idle count = record { knows = λ some_parts. absurd (omega arith); gave_what_it_took = omega arith; idle_has_none = λ _. refl }

  pub deals : (pass : ℕ) (v : PoolView) → 1 < v.parts → Forks (Kept size) pass v (less_one_part v) (one_part v)
  deals pass v more = split pass v (less_one_part v) (one_part v) (omega arith) (omega arith)
      (λ count g. record { knows = λ _. g.knows (omega arith); gave_what_it_took = g.gave_what_it_took; idle_has_none = λ none. absurd (omega arith) })
      (λ count g. record { knows = λ _. g.knows (omega arith); gave_what_it_took = omega arith; idle_has_none = λ _. refl })

  pub joins : (pass : ℕ) (v : PoolView) (other : ℕ) (u : PoolView) → 1 ≤ v.parts → Merges (Kept size) pass v other u (joined v u) idle
  joins pass v other u some_parts items views h at apart there =
      let w : PoolView = joined v u in
      let vs : List PoolView = set views pass w in
      let was : get_elem? views other ≡ some u = ⊎_elim (λ (x : (other ≡ pass) × (w ≡ u)). absurd (apart x.0)) (λ (x : (other ≢ pass) × (get_elem? views other ≡ some u)). x.1) (at_set views pass other w u there) in
      let f = h.each pass v at in
      let g = h.each other u was in
      let fl = f.gave_what_it_took in
      let gl = g.gave_what_it_took in
      let tp = total_set parts views pass v w at in
      let tl = total_set lent views pass v w at in
      let sp = total_set parts vs other u idle there in
      let sl = total_set lent vs other u idle there in
      let ap = h.all_parts in
      let hl = h.home_or_lent in
      record {
        count = h.count;
        home_or_lent = omega arith;
        all_parts = omega arith;
        sizes = h.sizes;
        each = each_set (Fits h.count) vs other idle (fits_idle h.count)
            (λ j y _ e. each_set (Fits h.count) views pass w
            (record { knows = λ _. f.knows some_parts; gave_what_it_took = omega arith; idle_has_none = λ none. absurd (omega arith) })
            (λ k x _ z. h.each k x z) j y e);
      }

  pub counts : (pass : ℕ) (v : PoolView) → 1 ≤ v.parts → Learns (Kept size) pass v (Counts v)
  counts pass v some_parts items views h at =
      let g = h.each pass v at in
      let there = at_le lent views pass v at in
      let hl = h.home_or_lent in
      let ap = h.all_parts in
      let k = g.knows some_parts in (
        omega arith,
        λ all.
            let only = total_only lent views pass v at
            (λ j u apart e.
            (let none = others_none parts views pass v at (omega arith) j u apart e in
            let f = h.each j u e in
            let zero = f.idle_has_none none in
            let gave = f.gave_what_it_took in
            omega arith)) in
            omega arith,
      )
