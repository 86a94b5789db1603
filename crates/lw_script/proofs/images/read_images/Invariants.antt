use Rattle.std.proofs.Common.{◌≡◌, map, take}
use Rattle.serde_json.specs.View.{view}
use Rattle.lw_model.specs.ScriptShape.{image_in}
use Rattle.lw_script.specs.Fitted.{fitted_image}
use Rattle.lw_script.proofs.images.read_images.Given as goal

abbrev pub invariant-loop-value : goal.invariant-loop-value
invariant-loop-value l = l.list.items ≡ map (λ v. fitted_image (image_in (view v))) (take l.value-index l.values)
