use Rattle.lw_whole.proofs.NineRules.{whole_is_lawful}
use Rattle.lw_whole.proofs.lawful.whole_runs_are_lawful.Goals as goal

pub returns : goal.returns
returns c = whole_is_lawful
