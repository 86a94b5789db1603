-- Seats that have done nothing.
use Rattle.std.specs.Prelude.{◌≡◌}
use Rattle.lw_latch.specs.DeviceEnds.{SeatEnd}
use Rattle.device_bench.specs.declared.storm.Giver.{Giver}

-- a seat that holds no channel and was never given one
abbrev pub IsFreshSeat : SeatEnd → Type 0
IsFreshSeat e = (e.view.channel ≡ 0) × (e.view.gives ≡ 0)

-- a giver whose seat is such a one
abbrev pub IsFresh : Giver → Type 0
IsFresh g = IsFreshSeat g.seat
