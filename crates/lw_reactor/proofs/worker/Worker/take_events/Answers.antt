use Rattle.lw_reactor.proofs.Events.{handles_is}
use Rattle.lw_reactor.proofs.Results.{ok_both}
use Rattle.lw_reactor.proofs.worker.Worker.take_events.Goals as goal

pub returns-clause-handled : goal.returns-clause-handled
returns-clause-handled g c = ok_both c.take_events.result _ _ _ c.take_events.ensures.handled c.take_events.ensures.none
    (λ n h none. handles_is _ c.args.self.now c.take_events.new.self n h.0 h.1 none c.self.view_is)
