use Rattle.std.proofs.Common.{◌≡◌, ◌≢◌, ◌∙◌, sym, subst, Some, None, OnOk, IfErr}
use Rattle.serde_json.specs.View.{view}
use Rattle.lw_model.specs.declared.refusal.ScriptRefusal.TheVariants.{NoMemory}
use Rattle.lw_model.specs.ScriptShape.{script_in}
use Rattle.lw_script.proofs.ValueRules.{value_refusal-shaped, value_refusal-unshaped, image_count-broken}
use Rattle.lw_script.proofs.read.read_value.Goals as goal

pub returns-in-Some-clause-refused : goal.returns-in-Some-clause-refused
returns-in-Some-clause-refused c = λ _. value_refusal-unshaped (view c.args.value.now) c.in-Some.refusal c.in-Some.ensures

pub returns-else-has_image_count-clause-refused : goal.returns-else-has_image_count-clause-refused
returns-else-has_image_count-clause-refused c =
    let d = view c.args.value.now in
    λ _. value_refusal-shaped d c.in-None.ensures ∙ image_count-broken (script_in d) (sym c.has_image_count.ensures ∙ c.if-has_image_count.false)

pub returns-then-has_image_count-clause-accepted : goal.returns-then-has_image_count-clause-accepted
returns-then-has_image_count-clause-accepted c =
    subst (λ o. OnOk c.read_parts.result (o ≡ None)) (sym (value_refusal-shaped (view c.args.value.now) c.in-None.ensures)) c.read_parts.ensures.accepted

pub returns-then-has_image_count-clause-refused : goal.returns-then-has_image_count-clause-refused
returns-then-has_image_count-clause-refused c =
    subst (λ o. IfErr c.read_parts.result (λ e. e ≢ NoMemory → o ≡ Some e)) (sym (value_refusal-shaped (view c.args.value.now) c.in-None.ensures)) c.read_parts.ensures.refused
