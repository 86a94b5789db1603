use Rattle.std.proofs.Common.{All}
use Rattle.std.specs.Vec.Iter.{into_iter_items}
use Rattle.device_bench.specs.Givers.{IsFresh, IsFreshSeat}
use Rattle.device_bench.proofs.storm.new_givers.Given as goal

abbrev pub invariant-loop-seat : goal.invariant-loop-seat
invariant-loop-seat l = All IsFresh l.eight.items × All IsFreshSeat (into_iter_items l.seat-iterator)
