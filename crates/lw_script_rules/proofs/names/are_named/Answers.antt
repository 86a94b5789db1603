use Rattle.std.proofs.Common.{◌∙◌, sym}
use Rattle.std.proofs.lemmas.List.Folds.{list_all-map}
use Rattle.lw_model.specs.ScriptRules.{is_name}
use Rattle.lw_script_rules.proofs.names.are_named.Goals as goal

pub returns : goal.returns
returns g c = c.each_is_named.ensures ∙ sym (list_all-map is_name g.T.Named.name_of c.args.items.now)
