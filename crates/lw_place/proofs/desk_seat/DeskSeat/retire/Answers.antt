use Rattle.std.proofs.Common.{rules, ◌<◌, sym, subst}
use Rattle.lw_place.specs.PlaceWord.{most_threads}
use Rattle.lw_place.specs.PlaceSeats.{DeskEnd}
use Rattle.lw_place.proofs.Steps.{retires}
use Rattle.lw_place.proofs.desk_seat.DeskSeat.retire.Goals as goal

pub fetch_add-requires : goal.fetch_add-requires
fetch_add-requires c = (search rules, search rules, retires _ _ _ _ c.self.invariant.one_desk (subst (λ (e : DeskEnd). e.retired < most_threads) (sym c.self.view_is) c.requires))
