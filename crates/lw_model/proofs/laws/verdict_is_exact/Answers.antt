use Rattle.lw_model.proofs.Judged.{verdict-exact}
use Rattle.lw_model.proofs.laws.verdict_is_exact.Goals as goal

pub returns : goal.returns
returns c = verdict-exact
