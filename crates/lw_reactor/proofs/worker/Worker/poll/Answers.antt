use Rattle.std.proofs.Common.{subst, sym}
use Rattle.lw_reactor.specs.Workers.{WorkerEnd}
use Rattle.lw_reactor.specs.Polling.{IsThere}
use Rattle.lw_reactor.proofs.Results.{err_then, ok_then}
use Rattle.lw_reactor.proofs.Stopped.{poll_halts_is, polls_one_is}
use Rattle.lw_reactor.proofs.worker.Worker.poll.Goals as goal

pub returns-clause-polled : goal.returns-clause-polled
returns-clause-polled g c = ok_then c.poll_at.result _ _ c.poll_at.ensures.polled
    (λ p h. polls_one_is g.C.Clock.readings _ c.args.at p _ c.args.self.now c.poll_at.new.station c.poll_at.new.clock c.poll_at.new.now c.self.view_is h)

pub returns-clause-stops : goal.returns-clause-stops
returns-clause-stops g c = err_then c.poll_at.result _ _ c.poll_at.ensures.stops
    (λ s h. poll_halts_is g.C.Clock.readings _ _ g.B.Body.ends c.args.at s _ c.args.self.now c.poll_at.new.station c.poll_at.new.clock c.poll_at.new.now c.self.view_is h.1 h.2 h.0)

pub poll_at-requires-clause-there : goal.poll_at-requires-clause-there
poll_at-requires-clause-there g c κs within =
    let f = c.requires.there in
    (f.0, subst (λ (w : WorkerEnd _ _ _ _ _). IsThere w.station.list c.args.at f.0) (sym c.self.view_is) f.1, f.2)
