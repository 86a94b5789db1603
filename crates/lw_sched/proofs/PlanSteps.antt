-- The loop of the plan against its definition: the orders so far, and those of the rows that are left.
use Rattle.std.proofs.Common.{◌≡◌, ℕ, ◌+◌, ◌*◌, ◌<◌, ◌≤◌, ◌==◌, List, [], ◌∷◌, ◌++◌, length, drop, get_or, set, replicate, slice_index, zip, filter_map, option_to_list, Option, Some, None, refl, sym, ap, ◌∙◌, arith}
use Rattle.std.specs.List.{cons_option}
use Rattle.std.proofs.lemmas.Bool.{eq-eqb, ne_eqb, cond-true, cond-false}
use Rattle.std.proofs.lemmas.List.{append-nil, append_assoc, drop_more, length-set, length-replicate}
use Rattle.lw_base.specs.declared.moves.Limits.{Limits}
use Rattle.lw_base.specs.declared.moves.Row.{Row}
use Rattle.lw_base.specs.declared.moves.Order.{Order}
use Rattle.lw_base.specs.Plan.{load, core_load, planned, choice, choices, order_of, plan}
use Rattle.lw_sched.specs.Sums.{Tells}
use Rattle.lw_sched.proofs.Loads.{load_most}
use Rattle.lw_sched.proofs.Tallies.{planned_more, added, added_most, none_yet, none_yet_most}

-- the orders of the rows `ws` with their masks, after the choices in `earlier`
abbrev pub orders_after : Limits → ℕ → List Row → List (ℕ × ℕ) → List Row → List ℕ → List Order
orders_after limits reactors rows earlier ws masks = filter_map order_of (zip ws (choices limits reactors rows earlier (zip ws masks)))

-- i rows were gone through: `sums` has what is planned, and the orders go on with those of the other rows
pub record PlansSoFar (limits : Limits) (reactors : ℕ) (rows : List Row) (masks : List ℕ) (i : ℕ) (sums : List ℕ) (orders : List Order) : Type 0 where
  pub earlier : List (ℕ × ℕ)
  pub count : length sums ≡ reactors
  pub loads : Tells (planned earlier) sums
  pub most : (c : ℕ) → get_or sums c 0 ≤ 100 * i
  pub rest : orders ++ orders_after limits reactors rows earlier (drop i rows) (drop i masks) ≡ plan limits reactors rows masks

pub plan_first : (limits : Limits) (reactors : ℕ) (rows : List Row) (masks : List ℕ) → PlansSoFar limits reactors rows masks 0 (replicate reactors 0) []
plan_first limits reactors rows masks = record {
  earlier = [];
  count = length-replicate reactors 0;
  loads = none_yet reactors;
  most = none_yet_most reactors;
  rest = refl;
}

after_option : (orders : List Order) (o : Option Order) (rest : List Order) → (orders ++ option_to_list o) ++ rest ≡ orders ++ cons_option o rest
after_option orders None rest = ap (λ l. l ++ rest) (append-nil orders)
after_option orders (Some x) rest = append_assoc orders (x ∷ []) rest

pub plan_more : (limits : Limits) (reactors : ℕ) (rows : List Row) (masks cores sums : List ℕ) (orders : List Order) (i : ℕ) (v w : Row) (m to : ℕ)
    → length masks ≡ length rows → i < length rows → w ≡ get_or rows i v → m ≡ get_or masks i 0
    → Tells (core_load rows) cores → to ≡ choice limits (length sums) (slice_index cores) (slice_index sums) w m → to < length sums
    → PlansSoFar limits reactors rows masks i sums orders
    → PlansSoFar limits reactors rows masks (i + 1) (set sums to (get_or sums to 0 + load w)) (orders ++ option_to_list (order_of (w, to)))
plan_more limits reactors rows masks cores sums orders i v w m to same less w_is m_is cores_tell to_is below so_far =
    let earlier : List (ℕ × ℕ) = so_far.earlier in
    let after : ℕ → List Order = λ t. orders ++ cons_option (order_of (w, t)) (orders_after limits reactors rows (earlier ++ (t, load w) ∷ []) (drop (i + 1) rows) (drop (i + 1) masks)) in
    let chosen : to ≡ choice limits reactors (core_load rows) (planned earlier) w m =
    to_is ∙ (λ k. choice limits (so_far.count k) (λ c. cores_tell c k) (λ c. so_far.loads c k) w m) in
    let rows_at : w ∷ drop (i + 1) rows ≡ drop i rows = ap (λ x. x ∷ drop (i + 1) rows) w_is ∙ sym (drop_more rows i v less) in
    let masks_at : m ∷ drop (i + 1) masks ≡ drop i masks = ap (λ x. x ∷ drop (i + 1) masks) m_is ∙ sym (drop_more masks i 0 (omega (arith, same, less))) in
    record {
      earlier = earlier ++ (to, load w) ∷ [];
      count = length-set sums to (get_or sums to 0 + load w) ∙ so_far.count;
      loads = added sums (planned earlier) (planned (earlier ++ (to, load w) ∷ [])) to (load w) below so_far.loads (planned_more earlier to (load w));
      most = added_most sums to (load w) i below (load_most w.busy w.idle) so_far.most;
      rest =
          after_option orders (order_of (w, to)) (orders_after limits reactors rows (earlier ++ (to, load w) ∷ []) (drop (i + 1) rows) (drop (i + 1) masks))
          ∙ ap after chosen
          ∙ (λ k. orders ++ orders_after limits reactors rows earlier (rows_at k) (masks_at k))
          ∙ so_far.rest;
    }

-- the thread is where it is to be
pub order_none : (w : Row) (to : ℕ) → to ≡ w.reactor → order_of (w, to) ≡ None
order_none w to same = cond-true (w.reactor == to) None (Some (record { thread = w.thread; to = to })) (eq-eqb w.reactor to (sym same))

-- it isn't
pub order_some : (w : Row) (to : ℕ) → (to ≡ w.reactor → ⊥) → order_of (w, to) ≡ Some (record { thread = w.thread; to = to })
order_some w to other = cond-false (w.reactor == to) None (Some (record { thread = w.thread; to = to })) (ne_eqb w.reactor to (λ e. other (sym e)))
