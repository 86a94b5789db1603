use Rattle.std.proofs.Common.{◌≡◌, map, take}
use Rattle.serde_json.specs.View.{view}
use Rattle.lw_model.specs.ScriptShape.{client_in}
use Rattle.lw_script.specs.Fitted.{fitted_client}
use Rattle.lw_script.proofs.build.read_clients.Given as goal

abbrev pub invariant-loop-value : goal.invariant-loop-value
invariant-loop-value l = l.list.items ≡ map (λ v. fitted_client (client_in (map (λ i. i.name) l.images.list.items) (view v))) (take l.value-index l.values)
