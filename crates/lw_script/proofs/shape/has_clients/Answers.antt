use Rattle.std.proofs.Common.{◌∙◌, sym, codes}
use Rattle.serde_json.specs.View.{view}
use Rattle.lw_model.specs.ScriptShape.{is_a_client, list_at}
use Rattle.lw_script.proofs.Views.{all-values-there}
use Rattle.lw_script.proofs.shape.has_clients.Goals as goal

pub returns-in-Some : goal.returns-in-Some
returns-in-Some c = c.are_clients.ensures ∙ sym (all-values-there is_a_client (list_at (codes "clients") (view c.args.value.now)) c.in-Some.clients.now (sym c.in-Some.ensures))
