use Rattle.lw_history.proofs.Made.{sends_are_made}
use Rattle.lw_history.proofs.laws.sends_are_made.Goals as goal

pub returns : goal.returns
returns c = sends_are_made
