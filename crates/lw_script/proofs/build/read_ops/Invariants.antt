use Rattle.std.proofs.Common.{◌≡◌, map, take}
use Rattle.std.specs.List.{filter_map}
use Rattle.serde_json.specs.View.{view}
use Rattle.lw_model.specs.ScriptShape.{op_in}
use Rattle.lw_script.proofs.build.read_ops.Given as goal

abbrev pub invariant-loop-value : goal.invariant-loop-value
invariant-loop-value l = l.ops.items ≡ filter_map (λ v. op_in (map (λ i. i.name) l.images.list.items) (view v)) (take l.value-index l.values)
