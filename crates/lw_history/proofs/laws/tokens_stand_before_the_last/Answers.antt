use Rattle.lw_history.proofs.GoingOn.{tokens_stand_before_the_last}
use Rattle.lw_history.proofs.laws.tokens_stand_before_the_last.Goals as goal

pub returns : goal.returns
returns c = tokens_stand_before_the_last
