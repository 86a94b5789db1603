use Rattle.std.proofs.Common.{◌∙◌, ap, map, take_all}
use Rattle.serde_json.specs.View.{view}
use Rattle.lw_model.specs.ScriptShape.{client_in, clients_in}
use Rattle.lw_script.specs.Fitted.{fitted_client}
use Rattle.lw_script.proofs.Maps.{map-made}
use Rattle.lw_script.proofs.build.read_clients.Goals as goal

pub returns : goal.returns
returns c =
    let names = map (λ i. i.name) c.args.images.now.list.items in
    c.loop-value.invariant
    ∙ ap (map (λ v. fitted_client (client_in names (view v)))) (take_all c.loop-value.value-index c.values_under-values.result.now c.loop-value-test.false)
    ∙ map-made fitted_client (client_in names) view c.values_under-values.result.now (clients_in (view c.args.script.now)) c.values_under-values.ensures
