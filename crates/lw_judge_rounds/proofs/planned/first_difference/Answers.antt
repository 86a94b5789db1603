use Rattle.std.proofs.Common.{◌≡◌, Some, None, cond, length, nat_lt, sym, ap, ◌∙◌, arith}
use Rattle.lw_base.specs.declared.moves.Order.{Order}
use Rattle.lw_base.proofs.Lists.{then_some_is}
use Rattle.lw_judge_rounds.proofs.Differing.{lacking, same_more, unlike_here}
use Rattle.lw_judge_rounds.proofs.planned.first_difference.Goals as goal

-- past a list's end
abbrev no_order : Order
no_order = record { thread = 0; to = 0 }

pub returns-then-not-is_planned : goal.returns-then-not-is_planned
returns-then-not-is_planned c =
    let p = c.loop-place.place in
    sym (c.loop-place.invariant.left ∙ unlike_here p c.args.plan.now c.args.orders.now no_order c.loop-place-test.true (sym c.is_planned.ensures ∙ c.if-not-is_planned.true) p)

pub loop-place-preserved : goal.loop-place-preserved
loop-place-preserved c =
    let p = c.loop-place.place in
    let more = same_more p c.args.plan.now c.args.orders.now no_order c.loop-place-test.true (sym c.is_planned.ensures ∙ c.if-not-is_planned.false) in
    record { low = omega (arith, more.0); left = c.loop-place.invariant.left ∙ more.1 }

pub returns : goal.returns
returns c =
    let p = c.loop-place.place in
    let plan = c.args.plan.now in
    let orders = c.args.orders.now in
    let is : p ≡ length orders = omega (arith, c.loop-place-test.false, c.loop-place.auto.place-end) in
    c.then_some.ensures ∙ then_some_is (nat_lt (length orders) (length plan)) (length orders)
    ∙ ap (λ n. cond (nat_lt n (length plan)) (Some n) None) (sym is)
    ∙ sym (lacking p plan orders is c.loop-place.invariant.low p)
    ∙ sym c.loop-place.invariant.left
