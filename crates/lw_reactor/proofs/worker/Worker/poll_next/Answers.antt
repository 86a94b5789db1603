use Rattle.std.proofs.Common.{inr}
use Rattle.lw_station.specs.Stations.{MayGo}
use Rattle.lw_reactor.proofs.Results.{err_then, ok_then}
use Rattle.lw_reactor.proofs.Trying.{for_reason, one_at}
use Rattle.lw_reactor.proofs.Polled.{there_all}
use Rattle.lw_reactor.proofs.Nexts.{may_try, start_halts_is, started_below, thread_is}
use Rattle.lw_reactor.proofs.worker.Worker.poll_next.Goals as goal

pub poll-requires-clause-there : goal.poll-requires-clause-there
poll-requires-clause-there g c κs within =
    let k = c.requires.worker in
    let t = one_at c.args.self.now.station.list c.args.at c.requires.range in
    (t.0, t.1, (there_all (MayGo c.args.self.now.station.number c.args.homes.now) c.args.self.now.station.list c.args.at t.0 t.1 k.3).going)

pub start_all-requires-clause-threads : goal.start_all-requires-clause-threads
start_all-requires-clause-threads g c κs within =
    let k = c.requires.worker in
    let t = one_at c.args.self.now.station.list c.args.at c.requires.range in
    started_below k.0 c.args.homes.now c.args.self.now c.args.at t.0 c.in_ok-polled.polled.started.items c.as_slice.result.now k.1 k.2 t.1 c.as_slice.ensures.value (c.in_ok-polled.ensures.numbers t.0 t.1)

pub returns-in_err-start_all-clause-stops : goal.returns-in_err-start_all-clause-stops
returns-in_err-start_all-clause-stops g c =
    let why = c.in_err-start_all.field-0.0 in
    for_reason c.from_residual-in_err-start_all.result why _ c.from_residual-in_err-start_all.ensures.1
    (start_halts_is g.C.Clock.readings _ _ g.B.Body.ends c.args.homes.now c.args.at why _ c.poll.new.self c.args.self.now c.in_ok-polled.polled c.as_slice.result.now c.start_all.new.station c.self.view_is c.as_slice.ensures.value c.in_ok-polled.ensures.polled c.in_err-start_all.ensures.stops)

pub end-requires-clause-there : goal.end-requires-clause-there
end-requires-clause-there g c κs within =
    let k = c.requires.worker in
    let h = thread_is g.C.Clock.readings _ c.args.homes.now c.args.at _ c.poll.new.self c.args.self.now c.in_ok-polled.polled c.as_slice.result.now c.start_all.new.station c.self.view_is c.as_slice.ensures.value c.in_ok-polled.ensures.polled c.in_ok-start_all.ensures.sent in
    may_try g.C.Clock.readings _ k.0 c.args.homes.now c.args.at c.args.self.now _ h c.requires.range k.2 k.3

pub returns-clause-polled : goal.returns-clause-polled
returns-clause-polled g c =
    let h = thread_is g.C.Clock.readings _ c.args.homes.now c.args.at _ c.poll.new.self c.args.self.now c.in_ok-polled.polled c.as_slice.result.now c.start_all.new.station c.self.view_is c.as_slice.ensures.value c.in_ok-polled.ensures.polled c.in_ok-start_all.ensures.sent in
    ok_then c.end.result _ _ c.end.ensures.tried (λ e t. record { mid = _; polled = h; tried = t })

pub returns-clause-stops : goal.returns-clause-stops
returns-clause-stops g c =
    let h = thread_is g.C.Clock.readings _ c.args.homes.now c.args.at _ c.poll.new.self c.args.self.now c.in_ok-polled.polled c.as_slice.result.now c.start_all.new.station c.self.view_is c.as_slice.ensures.value c.in_ok-polled.ensures.polled c.in_ok-start_all.ensures.sent in
    err_then c.end.result _ _ c.end.ensures.stops (λ s l. inr (record { mid = _; polled = h; lacks = l }))
