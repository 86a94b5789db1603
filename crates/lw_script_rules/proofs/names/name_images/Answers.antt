use Rattle.std.proofs.Common.{◌∙◌, ap, sym}
use Rattle.std.specs.List.{list_all}
use Rattle.lw_model.specs.ScriptRules.{names_an_image}
use Rattle.lw_model.proofs.Passing.{list_all-flat_map}
use Rattle.lw_script_rules.proofs.names.name_images.Goals as goal

pub returns : goal.returns
returns c =
    let test = names_an_image c.args.script.now in
    c.clients_name_images.ensures
    ∙ ap (list_all (λ x. list_all test x.ops)) c.as_slice.ensures
    ∙ sym (list_all-flat_map test (λ x. x.ops) c.args.script.now.clients)
