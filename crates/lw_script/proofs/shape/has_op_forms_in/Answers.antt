use Rattle.std.proofs.Common.{◌∙◌, sym, codes, is_some, []}
use Rattle.serde_json.specs.View.{view}
use Rattle.lw_model.specs.ScriptShape.{op_in, list_at}
use Rattle.lw_script.proofs.Views.{all-values}
use Rattle.lw_script.proofs.shape.has_op_forms_in.Goals as goal

pub returns-in-Some : goal.returns-in-Some
returns-in-Some c = c.are_ops.ensures ∙ sym (all-values (λ o. is_some (op_in [] o)) (list_at (codes "ops") (view c.args.client.now)) c.in-Some.ops.now (sym c.in-Some.ensures))
