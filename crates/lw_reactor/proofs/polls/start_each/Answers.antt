use Rattle.std.proofs.Common.{◌≡◌, ◌+◌, ◌<◌, ◌++◌, ◌∷◌, take, drop, sym, ap, subst, ◌∙◌}
use Rattle.std.specs.Prelude.{slice_index_or}
use Rattle.std.proofs.lemmas.List.{drop_more, take_more, take-append-drop}
use Rattle.lw_station.specs.Stopping.{RefusesTo}
use Rattle.lw_reactor.specs.Polling.{OrdersStarts, OrdersSomeStarts}
use Rattle.lw_reactor.proofs.Sending.{starts_more, starts_on}
use Rattle.lw_reactor.proofs.Trying.{for_reason}
use Rattle.lw_reactor.proofs.polls.start_each.Goals as goal

pub order-requires-clause-range : goal.order-requires-clause-range
order-requires-clause-range g c κs within =
    let n = c.loop-thread.thread-index in
    let ts = c.args.started.now in
    let on = starts_on c.args.homes.now (take n ts) c.args.events.now c.loop-thread.events c.args.sleeper.now c.loop-thread.sleeper c.loop-thread.invariant in
    let t = slice_index_or ts n 0 in
    let h = slice_index_or c.args.homes.now t 0 in
    let l = subst (λ m. h < m) (sym on.still.ends.count) (c.requires.homes t 0 (c.requires.threads n 0 c.loop-thread-test.true)) in
    (l, l)

pub order-requires-clause-wakers : goal.order-requires-clause-wakers
order-requires-clause-wakers g c κs within =
    let n = c.loop-thread.thread-index in
    let ts = c.args.started.now in
    let on = starts_on c.args.homes.now (take n ts) c.args.events.now c.loop-thread.events c.args.sleeper.now c.loop-thread.sleeper c.loop-thread.invariant in
    let t = slice_index_or ts n 0 in
    let h = slice_index_or c.args.homes.now t 0 in
    subst (λ m. h < m) (sym (on.wakers ∙ c.requires.wakers)) (c.requires.homes t 0 (c.requires.threads n 0 c.loop-thread-test.true))

pub returns-in_err-order-clause-stops : goal.returns-in_err-order-clause-stops
returns-in_err-order-clause-stops g c =
    let n = c.loop-thread.thread-index in
    let ts = c.args.started.now in
    let why = c.in_err-order.field-0.0 in
    let same = c.in_err-order.ensures.stop in
    let t = slice_index_or ts n 0 in
    let parts : ts ≡ take n ts ++ t ∷ drop (n + 1) ts = sym (take-append-drop n ts) ∙ ap (λ xs. take n ts ++ xs) (drop_more ts n 0 c.loop-thread-test.true) in
    for_reason c.from_residual.result why (λ s. OrdersSomeStarts c.args.homes.now s ts c.args.events.now c.order.new.events c.args.sleeper.now c.order.new.sleeper) c.from_residual.ensures.1
    (record {
      done = take n ts;
      thread = t;
      rest = drop (n + 1) ts;
      parts = parts;
      sent = subst (λ z. OrdersStarts c.args.homes.now (take n ts) c.args.events.now c.order.new.events c.args.sleeper.now z) (sym same.2) (subst (λ d. OrdersStarts c.args.homes.now (take n ts) c.args.events.now d c.args.sleeper.now c.loop-thread.sleeper) (sym same.1) c.loop-thread.invariant);
      refused = subst (λ d. RefusesTo (slice_index_or c.args.homes.now t 0) d why) (sym same.1) c.in_err-order.ensures.cause;
    })

pub loop-thread-preserved : goal.loop-thread-preserved
loop-thread-preserved g c =
    let n = c.loop-thread.thread-index in
    let ts = c.args.started.now in
    let t = slice_index_or ts n 0 in
    subst (λ xs. OrdersStarts c.args.homes.now xs c.args.events.now c.order.new.events c.args.sleeper.now c.order.new.sleeper) (sym (take_more ts n 0 c.loop-thread-test.true))
    (starts_more c.args.homes.now (take n ts) t c.args.events.now c.loop-thread.events c.order.new.events c.args.sleeper.now c.loop-thread.sleeper c.order.new.sleeper c.loop-thread.invariant c.in_ok-order.ensures.sent)
