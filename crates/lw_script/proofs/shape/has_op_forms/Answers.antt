use Rattle.std.proofs.Common.{◌∙◌, sym, codes, is_some, []}
use Rattle.serde_json.specs.View.{view}
use Rattle.lw_model.specs.ScriptShape.{op_in, ops_in, clients_in, list_at}
use Rattle.lw_model.proofs.Passing.{list_all-flat_map}
use Rattle.lw_script.specs.Shape.{has_op_forms_in}
use Rattle.lw_script.proofs.Views.{all-values}
use Rattle.lw_script.proofs.shape.has_op_forms.Goals as goal

pub returns-in-Some : goal.returns-in-Some
returns-in-Some c =
    c.have_op_forms.ensures
    ∙ sym (list_all-flat_map (λ o. is_some (op_in [] o)) ops_in (clients_in (view c.args.value.now))
    ∙ all-values has_op_forms_in (list_at (codes "clients") (view c.args.value.now)) c.in-Some.clients.now (sym c.in-Some.ensures))
