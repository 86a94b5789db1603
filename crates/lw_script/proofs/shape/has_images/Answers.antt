use Rattle.std.proofs.Common.{◌∙◌, sym, codes}
use Rattle.serde_json.specs.View.{view}
use Rattle.lw_model.specs.ScriptShape.{is_an_image, list_at}
use Rattle.lw_script.proofs.Views.{all-values-there}
use Rattle.lw_script.proofs.shape.has_images.Goals as goal

pub returns-in-Some : goal.returns-in-Some
returns-in-Some c = c.are_images.ensures ∙ sym (all-values-there is_an_image (list_at (codes "images") (view c.args.value.now)) c.in-Some.images.now (sym c.in-Some.ensures))
