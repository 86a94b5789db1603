use Rattle.std.proofs.Common.{◌∙◌, ap, map, take_all}
use Rattle.serde_json.specs.View.{view}
use Rattle.lw_model.specs.ScriptShape.{image_in, images_in}
use Rattle.lw_script.specs.Fitted.{fitted_image}
use Rattle.lw_script.proofs.Maps.{map-made}
use Rattle.lw_script.proofs.images.read_images.Goals as goal

pub returns : goal.returns
returns c =
    c.loop-value.invariant
    ∙ ap (map (λ v. fitted_image (image_in (view v)))) (take_all c.loop-value.value-index c.values_under-values.result.now c.loop-value-test.false)
    ∙ map-made fitted_image image_in view c.values_under-values.result.now (images_in (view c.args.script.now)) c.values_under-values.ensures
