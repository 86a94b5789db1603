use Rattle.std.proofs.Common.{◌≡◌, ◌-◌, ◌<◌, ℕ, length}
use Rattle.std.specs.Prelude.{slice_index_or}
use Rattle.lw_latch.specs.DeviceWord.{idle_view}
use Rattle.lw_latch.specs.DeviceEnds.{SeatEnd, new_seat}
use Rattle.lw_latch.proofs.device.device_latch.Given as goal

abbrev pub invariant-loop-number : goal.invariant-loop-number
invariant-loop-number l = record {
  rest : l.rest ≡ record { latch = l.initial.rest.latch; number = l.last; began_by = 0; view = idle_view l.fn.seats (l.fn.seats - l.number) };
  latch : l.initial.rest.latch.seats ≡ l.fn.seats;
  count : length l.all.items ≡ l.number;
  each : (k : ℕ) (d : SeatEnd) → k < l.number → slice_index_or l.all.items k d ≡ new_seat l.initial.rest.latch k;
}
