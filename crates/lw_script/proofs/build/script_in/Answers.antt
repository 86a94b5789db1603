use Rattle.std.proofs.Common.{◌∙◌, ap, map, codes, unwrap_or}
use Rattle.serde_json.specs.View.{view}
use Rattle.lw_model.specs.ScriptShape.{client_in, clients_in, image_in, images_in, name_in, pool_number}
use Rattle.lw_script.specs.Fitted.{fitted, fitted_client, fitted_image}
use Rattle.lw_script.proofs.Maps.{names-read, same-script}
use Rattle.lw_script.proofs.build.script_in.Goals as goal

pub returns : goal.returns
returns c =
    let d = view c.args.value.now in
    let images = c.from_vec.ensures ∙ c.into_list.ensures ∙ c.in_ok-images.ensures in
    let clients =
    c.from_vec-2.ensures
    ∙ c.in_ok-clients.ensures
    ∙ ap (λ names. map fitted_client (map (client_in names) (clients_in d))) (ap (map (λ i. i.name)) c.in_ok-images.ensures ∙ names-read (images_in d)) in
    same-script
    c.from_vec.result (map fitted_image (map image_in (images_in d)))
    c.from_vec-2.result (map fitted_client (map (client_in (map name_in (images_in d))) (clients_in d)))
    c.fitted.result (fitted (unwrap_or (pool_number (codes "small") d) 0))
    c.fitted-2.result (fitted (unwrap_or (pool_number (codes "large") d) 0))
    images clients (c.fitted.ensures ∙ ap fitted c.pool_number.ensures) (c.fitted-2.ensures ∙ ap fitted c.pool_number-2.ensures)
