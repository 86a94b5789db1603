use Rattle.std.proofs.Common.{rules, []}
use Rattle.lw_workload.specs.Workload.{image_drawn}
use Rattle.lw_workload.proofs.Words.{pushed}
use Rattle.lw_workload.proofs.drawing.images.Goals as goal

pub loop-image-preserved : goal.loop-image-preserved
loop-image-preserved c = pushed image_drawn [] _ _ c.loop-image.image c.in_ok-one_image.field-0 c.loop-image.invariant (search rules) c.in_ok-one_image.ensures
