-- The first rule that a value breaks, its shape and then its script.
use Rattle.std.proofs.Common.{◌≡◌, List, [], ◌∷◌, Some, None, length, drop, map, false, ap, sym, ◌∙◌}
use Rattle.std.specs.Option.{option_or}
use Rattle.lw_model.specs.declared.script.Script.{Script}
use Rattle.lw_model.specs.declared.refusal.ScriptRefusal.{ScriptRefusal}
use Rattle.lw_model.specs.declared.refusal.ScriptRefusal.TheVariants.{Limit}
use Rattle.lw_model.specs.ScriptRules.{unless, first_some, rule_answers, rule_broken, is_within, has_image_count}
use Rattle.std.proofs.lemmas.List.{length-map}
use Rattle.serde_json.specs.Data.{Data}
use Rattle.serde_json.specs.View.{view}
use Rattle.serde_json.specs.declared.value.Value.{Value}
use Rattle.lw_model.specs.ScriptShape.{value_refusal, script_in, images_in, image_in}
use Rattle.lw_script.specs.Shape.{shape_answers, shape_broken}
use Rattle.lw_script_rules.proofs.RuleLemmas.{first_some-append, first_some-cons, option_or-none}

-- the shape, and then the rules over the script
pub value_refusal-parts : (d : Data) → value_refusal d ≡ option_or (shape_broken d) (rule_broken (script_in d))
value_refusal-parts d =
    first_some-append (shape_answers d) (rule_broken (script_in d) ∷ [])
    ∙ ap (option_or (shape_broken d)) (first_some-cons (rule_broken (script_in d)) [] ∙ option_or-none (rule_broken (script_in d)))

-- a value whose shape holds breaks what its script breaks
pub value_refusal-shaped : (d : Data) → None ≡ shape_broken d → value_refusal d ≡ rule_broken (script_in d)
value_refusal-shaped d e = value_refusal-parts d ∙ ap (λ o. option_or o (rule_broken (script_in d))) (sym e)

pub value_refusal-unshaped : (d : Data) (r : ScriptRefusal) → Some r ≡ shape_broken d → value_refusal d ≡ Some r
value_refusal-unshaped d r e = value_refusal-parts d ∙ ap (λ o. option_or o (rule_broken (script_in d))) (sym e)

-- the count of images is the first limit
pub image_count-broken : (s : Script) → has_image_count s ≡ false → rule_broken s ≡ Some (Limit 1)
image_count-broken s e =
    let others = first_some (drop 1 (rule_answers s)) in
    first_some-cons (unless (has_image_count s) (Limit 1)) (drop 1 (rule_answers s)) ∙ ap (λ b. option_or (unless b (Limit 1)) others) e

pub image_count-values : (vs : List Value) (d : Data) → map view vs ≡ images_in d → is_within 1 16 (length vs) ≡ has_image_count (script_in d)
image_count-values vs d e = ap (is_within 1 16) (sym (length-map vs view) ∙ ap length e ∙ sym (length-map (images_in d) image_in))
