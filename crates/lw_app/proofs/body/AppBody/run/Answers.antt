use Rattle.lw_app.proofs.Results.{on_ok}
use Rattle.lw_app.proofs.Running.{fits_here, keeps_handled, adds_handled, fits_called}
use Rattle.lw_app.proofs.Telling.{runs_handled}
use Rattle.lw_app.proofs.body.AppBody.run.Goals as goal

pub returns-clause-lawful : goal.returns-clause-lawful
returns-clause-lawful g c = on_ok c.handle.result (λ h k of is keeps. keeps_handled k _ _ keeps c.args.message (fits_here k _ _ c.args.message keeps is.its_ring) h) c.handle.ensures

pub returns-clause-adds : goal.returns-clause-adds
returns-clause-adds g c = on_ok c.handle.result (adds_handled c.args.message _ _) c.handle.ensures

pub returns-clause-fits : goal.returns-clause-fits
returns-clause-fits g c = on_ok c.handle.result (λ h k of is keeps all. fits_called c.args.message _ _ k keeps is.its_ring h all) c.handle.ensures

pub returns-clause-does : goal.returns-clause-does
returns-clause-does g c = on_ok c.handle.result (λ h. runs_handled c.args.message c.args._now _ _ c.requires.3.app.empty h) c.handle.ensures
