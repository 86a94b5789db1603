use Rattle.std.proofs.Common.{length, ◌-◌}
use Rattle.lw_image.proofs.Filled.{Filled}
use Rattle.lw_image.proofs.fill.fill_with.Given as goal

abbrev pub invariant-loop-done : goal.invariant-loop-done
invariant-loop-done l = Filled l.range l.pattern l.done

abbrev pub decreases-loop-done : goal.decreases-loop-done
decreases-loop-done l = length l.initial.range - l.done
