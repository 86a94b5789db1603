use Rattle.std.proofs.Common.{◌∙◌, sym, ap, map, Some, option_map}
use Rattle.serde_json.specs.View.{view}
use Rattle.lw_model.specs.ScriptShape.{list_of}
use Rattle.lw_script.proofs.Views.{list_of-items_of}
use Rattle.lw_script.proofs.value.list.Goals as goal

pub returns-in-Some : goal.returns-in-Some
returns-in-Some c = ap Some (ap (map view) c.as_slice.ensures.value ∙ sym (list_of-items_of (map view c.in-Some.values.now.items))) ∙ ap (option_map list_of) c.in-Some.ensures
