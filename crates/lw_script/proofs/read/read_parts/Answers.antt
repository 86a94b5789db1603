use Rattle.std.proofs.Common.{◌∙◌, sym, ap}
use Rattle.serde_json.specs.View.{view}
use Rattle.lw_model.specs.ScriptRules.{rule_broken}
use Rattle.lw_model.specs.ScriptShape.{script_in}
use Rattle.lw_script.proofs.FittedLemmas.{rule_broken-fitted, fitted-accepted}
use Rattle.lw_script.proofs.read.read_parts.Goals as goal

pub returns-in-Ok-None-clause-accepted : goal.returns-in-Ok-None-clause-accepted
returns-in-Ok-None-clause-accepted c =
    sym (sym c.in-Ok-None.field-0-is ∙ c.in-Ok-None.ensures ∙ ap rule_broken c.in-Ok.ensures ∙ rule_broken-fitted (script_in (view c.args.value.now)))

pub returns-in-Ok-None-clause-script : goal.returns-in-Ok-None-clause-script
returns-in-Ok-None-clause-script c =
    let s = script_in (view c.args.value.now) in
    c.in-Ok.ensures ∙ fitted-accepted s (sym (sym c.in-Ok-None.field-0-is ∙ c.in-Ok-None.ensures ∙ ap rule_broken c.in-Ok.ensures ∙ rule_broken-fitted s))

pub returns-in-Ok-Some-clause-refused : goal.returns-in-Ok-Some-clause-refused
returns-in-Ok-Some-clause-refused c = λ _.
    let d = view c.args.value.now in
    sym (rule_broken-fitted (script_in d)) ∙ ap rule_broken (sym c.in-Ok.ensures) ∙ sym c.in-Ok-Some.ensures ∙ c.in-Ok-Some.field-0-is
