use Rattle.lw_laws.proofs.LineLemmas.{lines_stand}
use Rattle.lw_laws.proofs.places.lines_stand_where_numbered.Goals as goal

-- src/places.rt:8:1
pub returns : goal.returns
returns c = lines_stand
