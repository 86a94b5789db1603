use Rattle.std.proofs.Common.{◌≡◌, All, ◌∷◌}
use Rattle.std.specs.Vec.Iter.{into_iter_items}
use Rattle.lw_latch.specs.DeviceEnds.{FiresOnlyWhatItBegan}
use Rattle.lw_device.specs.Rows.{Row, latches, gathered_into}
use Rattle.lw_device.proofs.settling.join_rows.Given as goal

abbrev pub invariant-loop-row : goal.invariant-loop-row
invariant-loop-row l =
    (gathered_into l.whole (into_iter_items l.row-iterator) ≡ gathered_into l.initial.whole (into_iter_items l.initial.row-iterator))
    × All (λ (r : Row). latches r ≡ latches l.whole) (into_iter_items l.row-iterator)
    × (All (λ (r : Row). All FiresOnlyWhatItBegan r.seats) (l.whole ∷ into_iter_items l.row-iterator) → All (λ (r : Row). All FiresOnlyWhatItBegan r.seats) (l.initial.whole ∷ into_iter_items l.initial.row-iterator))
