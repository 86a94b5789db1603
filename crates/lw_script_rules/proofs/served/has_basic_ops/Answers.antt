use Rattle.std.proofs.Common.{◌∙◌, ap, sym}
use Rattle.std.specs.List.{list_all}
use Rattle.lw_model.proofs.Passing.{list_all-flat_map}
use Rattle.lw_script_rules.specs.Served.{is_basic}
use Rattle.lw_script_rules.proofs.served.has_basic_ops.Goals as goal

pub returns : goal.returns
returns c =
    c.have_basic_ops.ensures
    ∙ ap (list_all (λ x. list_all is_basic x.ops)) c.as_slice.ensures
    ∙ sym (list_all-flat_map is_basic (λ x. x.ops) c.args.script.now.clients)
