use Rattle.lw_history.proofs.Sparing.{none_to_spare}
use Rattle.lw_history.proofs.laws.none_are_to_be_spared.Goals as goal

pub returns : goal.returns
returns c = none_to_spare
