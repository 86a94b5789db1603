use Rattle.lw_whole.proofs.OwnerEnds.{owner_ended}
use Rattle.lw_whole.proofs.lawful.owners_end.Goals as goal

pub returns : goal.returns
returns c = owner_ended
