use Rattle.lw_client.proofs.Goes.{on_ok}
use Rattle.lw_client.proofs.Bodies.{keeps_run, adds_run, fits_run}
use Rattle.lw_client.proofs.body.ClientBody.run.Goals as goal

pub returns-clause-lawful : goal.returns-clause-lawful
returns-clause-lawful g c = on_ok c.handle.result (λ h k of is keeps. keeps_run c.args.message _ _ k is.its_ring keeps h) c.handle.ensures

pub returns-clause-adds : goal.returns-clause-adds
returns-clause-adds g c =
    let q = c.requires in
    on_ok c.handle.result (λ h. adds_run c.args.message _ _ q.0 q.2.its_ring q.3 h) c.handle.ensures

pub returns-clause-fits : goal.returns-clause-fits
returns-clause-fits g c = on_ok c.handle.result (λ h k of is keeps all. fits_run c.args.message _ _ k is.its_ring keeps h all) c.handle.ensures
