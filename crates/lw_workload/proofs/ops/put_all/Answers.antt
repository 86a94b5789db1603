use Rattle.std.proofs.Common.{rules, refl}
use Rattle.lw_model.specs.declared.script.Op.TheVariants as op
use Rattle.lw_workload.proofs.Words.{pushed}
use Rattle.lw_workload.proofs.ops.put_all.Goals as goal

pub loop-image-preserved : goal.loop-image-preserved
loop-image-preserved c = pushed op.Put _ _ _ c.loop-image.image _ c.loop-image.invariant (search rules) refl
