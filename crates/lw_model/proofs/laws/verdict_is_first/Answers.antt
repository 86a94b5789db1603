use Rattle.lw_model.proofs.VerdictMeans.{verdict_means}
use Rattle.lw_model.proofs.laws.verdict_is_first.Goals as goal

pub returns : goal.returns
returns c = verdict_means
