use Rattle.std.proofs.Common.{◌≡◌, All, drop}
use Rattle.std.specs.Vec.Iter.{into_iter_items}
use Rattle.lw_latch.specs.DeviceEnds.{FiresOnlyWhatItBegan}
use Rattle.lw_device.proofs.Pairing.{both_from, Matches}
use Rattle.lw_device.proofs.row.DeviceRow.gather.Given as goal

abbrev pub invariant-loop-seat : goal.invariant-loop-seat
invariant-loop-seat l =
    (l.self-inside.thread ≡ l.initial.self-inside.thread)
    × Matches l.device l.self-inside.seats.items (into_iter_items l.seat-iterator)
    × (both_from l.device l.self-inside.seats.items (into_iter_items l.seat-iterator)
    ≡ both_from 0 l.initial.self-inside.seats.items (into_iter_items l.initial.seat-iterator))
    × (All FiresOnlyWhatItBegan (drop l.device l.self-inside.seats.items) → All FiresOnlyWhatItBegan l.initial.self-inside.seats.items)
    × (All FiresOnlyWhatItBegan (into_iter_items l.seat-iterator) → All FiresOnlyWhatItBegan (into_iter_items l.initial.seat-iterator))
