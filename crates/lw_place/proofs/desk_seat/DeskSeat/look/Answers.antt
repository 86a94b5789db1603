use Rattle.std.proofs.Common.{rules, ◌<◌, sym, subst}
use Rattle.lw_place.specs.PlaceSeats.{DeskEnd}
use Rattle.lw_place.proofs.Steps.{looks}
use Rattle.lw_place.proofs.desk_seat.DeskSeat.look.Goals as goal

pub load-word-requires : goal.load-word-requires
load-word-requires c = (search rules, search rules, looks _ _ _ _ c.args.thread c.self.invariant.keeps.knows.some_threads (subst (λ (e : DeskEnd). c.args.thread < e.places.threads) (sym c.self.view_is) c.requires))
