use Rattle.std.proofs.Common.{rules}
use Rattle.lw_place.proofs.Dealing.{joins}
use Rattle.lw_place.proofs.bundle.Bundle.take_in.Goals as goal

pub join_seat-requires : goal.join_seat-requires
join_seat-requires c = (search rules, search rules, search rules, search rules, joins _ _ _ _ _)
