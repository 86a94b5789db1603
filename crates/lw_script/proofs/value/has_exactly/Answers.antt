use Rattle.std.proofs.Common.{◌∙◌, sym, ap, length, Some}
use Rattle.serde_json.specs.View.{view}
use Rattle.lw_script.proofs.Views.{has_keys-by, counted}
use Rattle.lw_script.proofs.value.has_exactly.Goals as goal

pub returns-then-has_each : goal.returns-then-has_each
returns-then-has_each c =
    sym (has_keys-by c.args.keys.now (view c.args.value.now) (Some c.in-Some.count) c.in-Some.ensures
    ∙ ap (λ each. counted (Some c.in-Some.count) each (length c.args.keys.now)) (sym c.if-has_each.ensures))

pub returns-else-has_each : goal.returns-else-has_each
returns-else-has_each c =
    c.if-has_each.false ∙ sym (has_keys-by c.args.keys.now (view c.args.value.now) (Some c.in-Some.count) c.in-Some.ensures
    ∙ ap (λ each. counted (Some c.in-Some.count) each (length c.args.keys.now)) (sym c.if-has_each.ensures))
