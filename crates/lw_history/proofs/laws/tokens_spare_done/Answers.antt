use Rattle.lw_history.proofs.Sparing.{tokens_spare_done}
use Rattle.lw_history.proofs.laws.tokens_spare_done.Goals as goal

pub returns : goal.returns
returns c = tokens_spare_done
