use Rattle.std.proofs.Common.{◌≡◌, map}
use Rattle.std.specs.List.{range_with_len}
use Rattle.lw_workload.specs.Workload.{image_drawn}
use Rattle.lw_workload.proofs.drawing.images.Given as goal

abbrev pub invariant-loop-image : goal.invariant-loop-image
invariant-loop-image l = l.list.items ≡ map image_drawn (range_with_len 0 l.image)
