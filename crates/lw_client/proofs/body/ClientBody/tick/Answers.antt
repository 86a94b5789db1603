use Rattle.lw_client.proofs.Goes.{on_ok}
use Rattle.lw_client.proofs.Bodies.{keeps_called, fits_called}
use Rattle.lw_client.proofs.body.ClientBody.tick.Goals as goal

pub returns-clause-lawful : goal.returns-clause-lawful
returns-clause-lawful g c = on_ok c.call.result (λ h k of keeps. keeps_called c.args.poller.0 _ _ k keeps c.requires.live of.threads h) c.call.ensures.goes

pub returns-clause-fits : goal.returns-clause-fits
returns-clause-fits g c = on_ok c.call.result (λ h k of keeps all. fits_called c.args.poller.0 _ _ k keeps c.requires.live of.threads h all) c.call.ensures.goes
