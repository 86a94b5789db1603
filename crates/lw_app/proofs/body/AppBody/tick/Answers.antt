use Rattle.lw_app.proofs.Results.{if_to_on}
use Rattle.lw_app.proofs.Ticking.{may_tick, keeps_ticked, adds_ticked, ticked_fits}
use Rattle.lw_app.proofs.body.AppBody.tick.Goals as goal

pub poll-requires-clause-may : goal.poll-requires-clause-may
poll-requires-clause-may g c =
    let q = c.requires.called in
    may_tick q.0 c.args.acts.now c.args.self.now q.2 q.1.threads

pub returns-clause-lawful : goal.returns-clause-lawful
returns-clause-lawful g c = if_to_on c.poll.result (λ work h k of keeps. keeps_ticked c.args.poller.0 work k _ _ keeps of.ran c.requires.live h) c.poll.ensures

pub returns-clause-adds : goal.returns-clause-adds
returns-clause-adds g c = if_to_on c.poll.result (λ work h. adds_ticked c.args.poller.0 work (record { body = c.args.self.now; acts = c.args.acts.now }) (record { body = c.poll.new.self; acts = c.poll.new.acts }) h) c.poll.ensures

pub returns-clause-fits : goal.returns-clause-fits
returns-clause-fits g c = if_to_on c.poll.result (λ work h k of keeps all. ticked_fits c.args.poller.0 work k _ _ keeps h all) c.poll.ensures
