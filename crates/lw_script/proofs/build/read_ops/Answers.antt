use Rattle.std.proofs.Common.{◌∙◌, sym, ap, map, take_all, ◌++◌, []}
use Rattle.std.specs.List.{filter_map, cons_option}
use Rattle.serde_json.specs.View.{view}
use Rattle.lw_model.specs.ScriptShape.{op_in, ops_in}
use Rattle.lw_script.proofs.Maps.{filter_map-made, filter_map-more}
use Rattle.lw_script.proofs.build.read_ops.Goals as goal

pub loop-value-preserved : goal.loop-value-preserved
loop-value-preserved c =
    let names = map (λ i. i.name) c.args.images.now.list.items in
    c.in_ok-push_op.ensures
    ∙ ap (λ done. done ++ cons_option (op_in names (view c.value-item.result)) []) c.loop-value.invariant
    ∙ sym (filter_map-more (λ v. op_in names (view v)) c.values_under-values.result.now c.loop-value.value-index c.value-item.result c.loop-value-test.true c.value-item.is)

pub returns : goal.returns
returns c =
    let names = map (λ i. i.name) c.args.images.now.list.items in
    c.loop-value.invariant
    ∙ ap (filter_map (λ v. op_in names (view v))) (take_all c.loop-value.value-index c.values_under-values.result.now c.loop-value-test.false)
    ∙ filter_map-made (op_in names) view c.values_under-values.result.now (ops_in (view c.args.client.now)) c.values_under-values.ensures
