use Rattle.lw_client.proofs.Goes.{on_ok}
use Rattle.lw_client.proofs.Bodies.{keeps_back, adds_back, fits_back, none_fit}
use Rattle.lw_client.proofs.body.ClientBody.returned.Goals as goal

pub returns-clause-lawful : goal.returns-clause-lawful
returns-clause-lawful g c = on_ok c.take_back.result (λ h k rest of is keeps. keeps_back c.args.to c.args.message _ _ k _ is.its_ring keeps h _) c.take_back.ensures.returns

pub returns-clause-adds : goal.returns-clause-adds
returns-clause-adds g c =
    let q = c.requires.called in
    on_ok c.take_back.result (λ h. adds_back c.args.to c.args.message _ _ q.0 _ q.3.its_ring q.4 h) c.take_back.ensures.returns

pub returns-clause-fits : goal.returns-clause-fits
returns-clause-fits g c = on_ok c.take_back.result (λ h k rest of is keeps. fits_back c.args.to c.args.message _ _ k _ is.its_ring keeps h (none_fit k c.args.acts.now.pending c.requires.none)) c.take_back.ensures.returns
