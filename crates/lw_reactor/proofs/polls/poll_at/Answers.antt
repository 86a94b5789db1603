use Rattle.std.proofs.Common.{refl, vec_capacity}
use Rattle.lw_reactor.proofs.Results.{err_then, ok_then}
use Rattle.lw_reactor.proofs.Stopped.{list_halts, list_polls, shown_at}
use Rattle.lw_reactor.proofs.polls.poll_at.Goals as goal

pub returns-clause-polled : goal.returns-clause-polled
returns-clause-polled g c =
    let f = c.requires.there in
    ok_then c.poll_thread.result _ _ c.poll_thread.ensures.polled
    (λ p h. list_polls g.C.Clock.readings _ c.args.at p _ c.args.station.now f.0 c.index_mut.result.now c.poll_thread.new.thread c.args.clock.now c.poll_thread.new.clock c.args.now.now c.poll_thread.new.now _ _ c.station.view_is f.1 c.index_mut.ensures.value refl refl h)

pub returns-clause-stops : goal.returns-clause-stops
returns-clause-stops g c =
    let f = c.requires.there in
    err_then c.poll_thread.result _ _ c.poll_thread.ensures.stops
    (λ s h. (list_halts g.C.Clock.readings _ _ g.B.Body.ends c.args.at s _ c.args.station.now f.0 c.index_mut.result.now c.poll_thread.new.thread c.args.now.now _ _ c.station.view_is f.1 c.index_mut.ensures.value refl refl h.0, h.1, h.2))

pub returns-clause-shown : goal.returns-clause-shown
returns-clause-shown g c =
    let f = c.requires.there in
    err_then c.poll_thread.result _ _ c.poll_thread.ensures.shown
    (λ s h. shown_at _ c.args.station.now c.args.at f.0 c.poll_thread.new.thread _ (vec_capacity c.station.inside.list) s c.station.view_is f.1 refl h)
