use Rattle.std.proofs.Common.{rules}
use Rattle.lw_place.proofs.Steps.{looks_at_done}
use Rattle.lw_place.proofs.desk_seat.DeskSeat.look_done.Goals as goal

pub load-requires : goal.load-requires
load-requires c = (search rules, search rules, looks_at_done _ _ _ _)
