use Rattle.std.proofs.Common.{◌≡◌, ◌<◌, ◌+◌, ◌++◌, ℕ, ap, ap₂, sym, ◌∙◌, subst, length, get_or, set, slice_get, slice_index, option_to_list, Some, Vec, Global, refl, arith}
use Rattle.std.proofs.lemmas.Grind.{common_steps}
use Rattle.std.proofs.lemmas.List.{append-nil}
use Rattle.std.proofs.lemmas.Option.{gets, get_or_from_slice_get}
use Rattle.lw_base.specs.declared.moves.Order.{Order}
use Rattle.lw_base.specs.declared.moves.Row.{Row}
use Rattle.lw_base.specs.Plan.{load, order_of, choice}
use Rattle.lw_sched.proofs.PlanSteps.{PlansSoFar, plan_first, plan_more, order_none, order_some}
use Rattle.lw_sched.proofs.planning.plan.Goals as goal
use Rattle.lw_sched.proofs.planning.plan.Goals.{in-Some, in_default, then-to-row+in_ok-push, else-to-row}

pub loop-place-init : goal.loop-place-init
loop-place-init c = rw (c.in_ok-planned.ensures.items_if_clones_equal (λ y is. is), c.new-orders.ensures.items) (plan_first c.args.limits c.args.reactors c.args.rows.now c.args.masks.now)

-- What is planned for a reactor is at most 100 for each row before.
pub overflow_add-here : goal.overflow_add-here
overflow_add-here c =
    let sums = c.loop-place.planned.items in
    let to = c.choose-to.result in
    let stood : slice_get sums to ≡ Some c.in-Some.here.now = grind (arith, common_steps, gets) in
    let read : get_or sums to 0 ≡ c.in-Some.here.now = get_or_from_slice_get sums to c.in-Some.here.now 0 stood in
    omega (arith, read, c.loop-place.invariant.most to, c.load_of-load.ensures.most, c.requires.few, c.loop-place-test.true)

-- One row more: its load is added to what is planned, and its order stands if it moves.
pub loop-place-preserved : goal.loop-place-preserved
loop-place-preserved c =
    let rows = c.args.rows.now in
    let masks = c.args.masks.now in
    let i = c.loop-place.place in
    let sums = c.loop-place.planned.items in
    let orders = c.loop-place.orders.items in
    let none : Row = record { thread = 0; reactor = 0; busy = 0; idle = 0 } in
    let w = get_or rows i none in
    let m = get_or masks i 0 in
    let to = c.choose-to.result in
    let chosen : to < length sums = omega (arith, c.choose-to.ensures.below, ap length c.as_slice-in-loop-place.ensures.value) in
    let items : c.match-get_mut.planned.items ≡ set sums to (get_or sums to 0 + load w) = elim c.match-get_mut.branch [
      | in-Some b ↦
          let stood : slice_get sums to ≡ Some b.in-Some.here.now = grind (arith, common_steps, gets) in
          ap (λ (v : Vec ℕ Global). v.items) b.planned-is
          ∙ ap (λ n. set sums to (n + c.load_of-load.result)) (sym (get_or_from_slice_get sums to b.in-Some.here.now 0 stood))
          ∙ ap (λ n. set sums to (get_or sums to 0 + n)) c.load_of-load.ensures.load
      | in_default b ↦ absurd (omega (arith, chosen, b.in_default.ensures.item))
    ] in
    let pushed : c.if-to-row.orders.items ≡ orders ++ option_to_list (order_of (w, to)) = elim c.if-to-row.branch [
      | then-to-row+in_ok-push b ↦ ap (λ (v : Vec Order Global). v.items) b.orders-is ∙ b.in_ok-push.ensures.items ∙ ap (λ o. orders ++ option_to_list o) (sym (order_some w to b.if-to-row.true))
      | else-to-row b ↦ ap (λ (v : Vec Order Global). v.items) b.orders-is ∙ sym (append-nil orders) ∙ ap (λ o. orders ++ option_to_list o) (sym (order_none w to b.if-to-row.false))
    ] in
    subst (λ os. PlansSoFar c.args.limits c.args.reactors rows masks (i + 1) c.match-get_mut.planned.items os) (sym pushed)
    (subst (λ ss. PlansSoFar c.args.limits c.args.reactors rows masks (i + 1) ss (orders ++ option_to_list (order_of (w, to)))) (sym items)
    (plan_more c.args.limits c.args.reactors rows masks c.in_ok-cores.cores.items sums orders i none w m to
    c.requires.masks c.loop-place-test.true refl refl c.in_ok-cores.ensures.each
    (c.choose-to.ensures.choice ∙ ap₂ (λ cs ss. choice c.args.limits (length ss) (slice_index cs) (slice_index ss) w m) c.as_slice.ensures.value c.as_slice-in-loop-place.ensures.value)
    chosen c.loop-place.invariant))
