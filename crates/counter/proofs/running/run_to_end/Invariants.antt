use Rattle.std.proofs.Common.{◌≡◌, false}
use Rattle.lw_place.specs.PlaceSeats.{IsList}
use Rattle.counter.proofs.running.run_to_end.Given as goal

abbrev pub invariant-loop-polls : goal.invariant-loop-polls
invariant-loop-polls g l = IsList l.thread.seat.place × (l.thread.stopped ≡ false)
