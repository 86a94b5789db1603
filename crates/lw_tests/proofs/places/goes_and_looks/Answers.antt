use Rattle.std.proofs.Common.{ap}
use Rattle.lw_place.specs.PlaceSeats.{ThreadEnd}
use Rattle.lw_tests.proofs.places.goes_and_looks.Goals as goal

pub arrive-requires : goal.arrive-requires
arrive-requires c = (1, ap (λ (t : ThreadEnd). t.place) c.leave_for.ensures)
