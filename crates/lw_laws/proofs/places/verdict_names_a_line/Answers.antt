use Rattle.lw_laws.proofs.NamedLines.{verdict_named}
use Rattle.lw_laws.proofs.places.verdict_names_a_line.Goals as goal

pub returns : goal.returns
returns c = verdict_named
