use Rattle.lw_history.proofs.Holding.{lines_are_counted}
use Rattle.lw_history.proofs.laws.lines_are_counted.Goals as goal

pub returns : goal.returns
returns c = lines_are_counted
