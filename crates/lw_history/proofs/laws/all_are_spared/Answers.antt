use Rattle.lw_history.proofs.GoingOn.{all_are_spared}
use Rattle.lw_history.proofs.laws.all_are_spared.Goals as goal

pub returns : goal.returns
returns c = all_are_spared
