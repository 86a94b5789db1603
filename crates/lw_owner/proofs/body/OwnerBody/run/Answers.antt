use Rattle.lw_owner.proofs.Answering.{on_ok}
use Rattle.lw_owner.proofs.Adding.{adds_handled}
use Rattle.lw_owner.proofs.Called.{keeps_called, fits_called, does_called}
use Rattle.lw_owner.proofs.body.OwnerBody.run.Goals as goal

pub returns-clause-lawful : goal.returns-clause-lawful
returns-clause-lawful g c = on_ok c.handle.result (λ h k of is keeps. keeps_called c.args.message _ _ k is.its_ring keeps h) c.handle.ensures

pub returns-clause-adds : goal.returns-clause-adds
returns-clause-adds g c = on_ok c.handle.result (adds_handled c.args.message _ _) c.handle.ensures

pub returns-clause-fits : goal.returns-clause-fits
returns-clause-fits g c = on_ok c.handle.result (λ h k of is keeps all. fits_called c.args.message _ _ k is.its_ring keeps h all) c.handle.ensures

pub returns-clause-does : goal.returns-clause-does
returns-clause-does g c =
    let q = c.requires in
    on_ok c.handle.result (λ h. does_called c.args.message _ _ q.0 q.2.its_ring q.3 h c.args._now) c.handle.ensures
