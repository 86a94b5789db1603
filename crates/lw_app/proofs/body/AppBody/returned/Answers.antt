use Rattle.lw_app.proofs.Results.{on_ok}
use Rattle.lw_app.proofs.Returning.{keeps_returned, adds_returned, fits_back}
use Rattle.lw_app.proofs.Telling.{takes_back_handled}
use Rattle.lw_app.proofs.body.AppBody.returned.Goals as goal

pub returns-clause-lawful : goal.returns-clause-lawful
returns-clause-lawful g c = on_ok c.handle_back.result (λ h k rest of is keeps. keeps_returned k rest c.args.to _ _ c.requires.none c.args.message keeps is.its_ring h) c.handle_back.ensures.handles

pub returns-clause-adds : goal.returns-clause-adds
returns-clause-adds g c = on_ok c.handle_back.result (adds_returned c.args.to c.args.message _ _) c.handle_back.ensures.handles

pub returns-clause-fits : goal.returns-clause-fits
returns-clause-fits g c = on_ok c.handle_back.result (λ h k rest of is keeps. fits_back c.args.to c.args.message _ _ k _ c.requires.none keeps is.its_ring h) c.handle_back.ensures.handles

pub returns-clause-does : goal.returns-clause-does
returns-clause-does g c = on_ok c.handle_back.result (takes_back_handled c.args.to c.args.message _ _) c.handle_back.ensures.handles
