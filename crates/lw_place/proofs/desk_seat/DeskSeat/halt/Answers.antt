use Rattle.std.proofs.Common.{rules}
use Rattle.lw_place.proofs.Steps.{halts}
use Rattle.lw_place.proofs.desk_seat.DeskSeat.halt.Goals as goal

pub store-requires : goal.store-requires
store-requires c = (search rules, search rules, halts _ _ _ _ c.self.invariant.one_desk c.self.invariant.once)
