use Rattle.std.proofs.Common.{◌≡◌, ◌+◌, ◌-◌, ◌<◌, ◌++◌, ◌∷◌, List, length, take, drop, Some, slice_get, sym, ap, subst, ◌∙◌}
use Rattle.std.specs.Prelude.{slice_index_or}
use Rattle.std.specs.Option.{option_copied}
use Rattle.std.proofs.lemmas.List.{drop_more, take-append-drop, take_more}
use Rattle.lw_base.specs.declared.moves.Order.{Order}
use Rattle.lw_base.specs.declared.moves.Round.{Round}
use Rattle.lw_station.specs.Stopping.{RefusesTo}
use Rattle.lw_reactor.specs.Rounding.{OrdersSome, SendsOrders}
use Rattle.lw_reactor.proofs.Sending.{orders_more, orders_on}
use Rattle.lw_reactor.proofs.Ordering.{found_there, last_is, order_in, stood_there}
use Rattle.lw_reactor.proofs.Trying.{for_reason}
use Rattle.lw_reactor.proofs.rounds.send_orders.Goals as goal

pub stood-at-requires : goal.stood-at-requires
stood-at-requires g c =
    let b = c.args.balancer.now in
    let x = c.in-Some.round.now in
    let os = c.as_slice-next-items.result.now in
    let n = c.loop-next.next-index in
    let none : Order = record { thread = 0; to = 0 } in
    let taken : slice_get b.rounds (length b.rounds - 1) ≡ Some x = ap (λ (xs : List Round). slice_get xs (length xs - 1)) (sym c.rounds.ensures.rounds) ∙ sym c.last.ensures.value ∙ ap option_copied c.in-Some.is in
    let i = order_in b x os n none taken c.rounds.ensures.lawful c.rounds.ensures.sends c.as_slice-next-items.ensures c.loop-next-test.true in
    i.thread

pub order-requires-clause-range : goal.order-requires-clause-range
order-requires-clause-range g c κs within =
    let b = c.args.balancer.now in
    let x = c.in-Some.round.now in
    let os = c.as_slice-next-items.result.now in
    let n = c.loop-next.next-index in
    let none : Order = record { thread = 0; to = 0 } in
    let taken : slice_get b.rounds (length b.rounds - 1) ≡ Some x = ap (λ (xs : List Round). slice_get xs (length xs - 1)) (sym c.rounds.ensures.rounds) ∙ sym c.last.ensures.value ∙ ap option_copied c.in-Some.is in
    let i = order_in b x os n none taken c.rounds.ensures.lawful c.rounds.ensures.sends c.as_slice-next-items.ensures c.loop-next-test.true in
    let o = slice_index_or os n none in
    let at = c.stood-at.result in
    let there = stood_there b x o at (last_is b x taken) i c.stood-at.ensures in
    let on = orders_on x (take n os) c.args.events.now c.loop-next.events c.args.sleeper.now c.loop-next.sleeper c.loop-next.invariant in
    let below : at < b.reactors = subst (λ k. k < b.reactors) there i.reactor in
    let ends = on.still.ends.count ∙ c.requires.reactors in
    (subst (λ k. at < k) (sym ends) below, subst (λ k. o.to < k) (sym ends) i.to)

pub order-requires-clause-wakers : goal.order-requires-clause-wakers
order-requires-clause-wakers g c κs within =
    let b = c.args.balancer.now in
    let x = c.in-Some.round.now in
    let os = c.as_slice-next-items.result.now in
    let n = c.loop-next.next-index in
    let none : Order = record { thread = 0; to = 0 } in
    let taken : slice_get b.rounds (length b.rounds - 1) ≡ Some x = ap (λ (xs : List Round). slice_get xs (length xs - 1)) (sym c.rounds.ensures.rounds) ∙ sym c.last.ensures.value ∙ ap option_copied c.in-Some.is in
    let i = order_in b x os n none taken c.rounds.ensures.lawful c.rounds.ensures.sends c.as_slice-next-items.ensures c.loop-next-test.true in
    let o = slice_index_or os n none in
    let at = c.stood-at.result in
    let there = stood_there b x o at (last_is b x taken) i c.stood-at.ensures in
    let on = orders_on x (take n os) c.args.events.now c.loop-next.events c.args.sleeper.now c.loop-next.sleeper c.loop-next.invariant in
    let below : at < b.reactors = subst (λ k. k < b.reactors) there i.reactor in
    subst (λ k. at < k) (sym (on.wakers ∙ c.requires.wakers)) below

pub returns-in_err-order-clause-stops : goal.returns-in_err-order-clause-stops
returns-in_err-order-clause-stops g c =
    let b = c.args.balancer.now in
    let x = c.in-Some.round.now in
    let os = c.as_slice-next-items.result.now in
    let n = c.loop-next.next-index in
    let none : Order = record { thread = 0; to = 0 } in
    let taken : slice_get b.rounds (length b.rounds - 1) ≡ Some x = ap (λ (xs : List Round). slice_get xs (length xs - 1)) (sym c.rounds.ensures.rounds) ∙ sym c.last.ensures.value ∙ ap option_copied c.in-Some.is in
    let i = order_in b x os n none taken c.rounds.ensures.lawful c.rounds.ensures.sends c.as_slice-next-items.ensures c.loop-next-test.true in
    let o = slice_index_or os n none in
    let at = c.stood-at.result in
    let there = stood_there b x o at (last_is b x taken) i c.stood-at.ensures in
    let why = c.in_err-order.field-0.0 in
    let same = c.in_err-order.ensures.stop in
    let whole : os ≡ take n os ++ o ∷ drop (n + 1) os = sym (take-append-drop n os) ∙ ap (λ xs. take n os ++ xs) (drop_more os n none c.loop-next-test.true) in
    for_reason c.from_residual.result why (λ s. OrdersSome b s c.args.events.now c.order.new.events c.args.sleeper.now c.order.new.sleeper) c.from_residual.ensures.1
    (record {
      round = x;
      is_last = last_is b x taken;
      done = take n os;
      next = o;
      rest = drop (n + 1) os;
      parts = sym c.as_slice-next-items.ensures ∙ whole;
      sent = subst (λ z. SendsOrders x (take n os) c.args.events.now c.order.new.events c.args.sleeper.now z) (sym same.2) (subst (λ d. SendsOrders x (take n os) c.args.events.now d c.args.sleeper.now c.loop-next.sleeper) (sym same.1) c.loop-next.invariant);
      at = at;
      found = found_there b x o at i there;
      refused = subst (λ d. RefusesTo at d why) (sym same.1) c.in_err-order.ensures.cause;
    })

pub loop-next-preserved : goal.loop-next-preserved
loop-next-preserved g c =
    let b = c.args.balancer.now in
    let x = c.in-Some.round.now in
    let os = c.as_slice-next-items.result.now in
    let n = c.loop-next.next-index in
    let none : Order = record { thread = 0; to = 0 } in
    let taken : slice_get b.rounds (length b.rounds - 1) ≡ Some x = ap (λ (xs : List Round). slice_get xs (length xs - 1)) (sym c.rounds.ensures.rounds) ∙ sym c.last.ensures.value ∙ ap option_copied c.in-Some.is in
    let i = order_in b x os n none taken c.rounds.ensures.lawful c.rounds.ensures.sends c.as_slice-next-items.ensures c.loop-next-test.true in
    let o = slice_index_or os n none in
    let at = c.stood-at.result in
    let there = stood_there b x o at (last_is b x taken) i c.stood-at.ensures in
    subst (λ xs. SendsOrders x xs c.args.events.now c.order.new.events c.args.sleeper.now c.order.new.sleeper) (sym (take_more os n none c.loop-next-test.true))
    (orders_more x (take n os) o at c.args.events.now c.loop-next.events c.order.new.events c.args.sleeper.now c.loop-next.sleeper c.order.new.sleeper c.loop-next.invariant (found_there b x o at i there) c.in_ok-order.ensures.sent)
