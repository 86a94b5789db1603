-- Each kind of step keeps the rule of a cell.
use Rattle.std.proofs.Common.{◌≡◌, ◌≢◌, ℕ, ◌+◌, ◌≤◌, List, [], ◌∷◌, set, refl, sym, ap, subst, ⊎_elim, arith, le_refl, slice_index}
use mathlib.Core.Option.{some, some-ne-none}
use lib.ListN.{get_elem?}
use Rattle.crossbeam_utils.specs.Register.{Turns, Forks}
use Rattle.atomic_table.proofs.Lists.{at_set, at_snoc}
use Rattle.lw_base.proofs.Totals.{total_set, total_snoc, others_none}
use Rattle.lw_load.specs.declared.cell.LoadView.{LoadView}
use Rattle.lw_load.specs.LoadRule.{writers, first_view, unread, Fits, Kept, Publishes, Reads}

pub begins : Kept (0 ∷ 0 ∷ []) (first_view ∷ [])
begins = record {
  one_writer = refl;
  each = λ j u e. ⊎_elim (λ (x : get_elem? {A = LoadView} [] j ≡ some u). absurd (some-ne-none u (sym x)))
      (λ (x : first_view ≡ u). subst (Fits (0 ∷ 0 ∷ [])) x (record { published = λ _. refl; busy_found = λ _. le_refl _; idle_found = λ _. le_refl _ }))
      (at_snoc [] first_view u j e);
}

-- what holds of each view after one has changed
each_set : (Q : LoadView → Type 0) (views : List LoadView) (i : ℕ) (w : LoadView) → Q w → ((j : ℕ) (u : LoadView) → j ≢ i → get_elem? views j ≡ some u → Q u)
    → (j : ℕ) (u : LoadView) → get_elem? (set views i w) j ≡ some u → Q u
each_set Q views i w mine others j u e = ⊎_elim (λ (x : (j ≡ i) × (w ≡ u)). subst Q x.1 mine)
    (λ (x : (j ≢ i) × (get_elem? views j ≡ some u)). others j u x.0 x.1) (at_set views i j w u e)

pub publishes : (id : ℕ) (v : LoadView) (busy idle : ℕ) → v.writers ≡ 1 → v.busy ≤ busy → v.idle ≤ idle
    → Turns Kept id v (λ _. busy ∷ idle ∷ []) Publishes
publishes id v busy idle one busier idler x views h at =
    let w : LoadView = record v { busy = busy; idle = idle; stores = v.stores + 1 } in
    let was : x ≡ v.busy ∷ v.idle ∷ [] = (h.each id v at).published (omega arith) in
    let busy_was : slice_index x 0 ≡ v.busy = ap (λ (l : List ℕ). slice_index l 0) was in
    let idle_was : slice_index x 1 ≡ v.idle = ap (λ (l : List ℕ). slice_index l 1) was in
    let t = total_set writers views id v w at in
    let all = h.one_writer in (
      w,
      record {
        one_writer = omega arith;
        each = each_set (Fits (busy ∷ idle ∷ [])) views id w
            (record { published = λ _. refl; busy_found = λ none. absurd (omega arith); idle_found = λ none. absurd (omega arith) })
            (λ j u apart e.
            (let none = others_none writers views id v at (omega arith) j u apart e in
            let g = h.each j u e in
            record {
              published = λ some_writer. absurd (omega arith);
              busy_found = λ z. (let a = g.busy_found z in omega arith);
              idle_found = λ z. (let a = g.idle_found z in omega arith);
            }));
      },
      refl,
    )

pub reads : (id : ℕ) (v : LoadView) → v.writers ≡ 0 → Turns Kept id v (λ x. x) Reads
reads id v none x views h at =
    let w : LoadView = record v { busy = slice_index x 0; idle = slice_index x 1; loads = v.loads + 1 } in
    let t = total_set writers views id v w at in
    let all = h.one_writer in
    let g = h.each id v at in (
      w,
      record {
        one_writer = omega arith;
        each = each_set (Fits x) views id w
            (record { published = λ some_writer. absurd (omega arith); busy_found = λ _. le_refl _; idle_found = λ _. le_refl _ })
            (λ j u _ e. h.each j u e);
      },
      (refl, g.busy_found none, g.idle_found none),
    )

pub makes : (id : ℕ) (v : LoadView) → Forks Kept id v v unread
makes id v x views h at =
    let vs : List LoadView = set views id v in
    let t = total_set writers views id v v at in
    let s = total_snoc writers vs unread in
    let all = h.one_writer in
    record {
      one_writer = omega arith;
      each = λ j u e. ⊎_elim
          (λ (here : get_elem? vs j ≡ some u). each_set (Fits x) views id v (h.each id v at) (λ k y _ f. h.each k y f) j u here)
          (λ (last : unread ≡ u). subst (Fits x) last (record { published = λ some_writer. absurd (omega arith); busy_found = λ _. omega arith; idle_found = λ _. omega arith }))
          (at_snoc vs unread u j e);
    }
