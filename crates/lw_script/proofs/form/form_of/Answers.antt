use Rattle.std.proofs.Common.{◌∙◌, sym, ap, map, arith}
use Rattle.serde_json.specs.View.{view}
use Rattle.lw_model.specs.ScriptShape.{op_of}
use Rattle.lw_script.proofs.Parts.{one-item, four-items, five-items, op_of-none, op_of-three, op_of-many}
use Rattle.lw_script.proofs.form.form_of.Goals as goal
use Rattle.lw_script.proofs.form.form_of.Goals.{in_default-via-then-parts-lt1, in_default-via-else-parts-lt1+else-parts-lt2+else-parts-lt3+then-parts-lt4, in_default-via-else-parts-lt1+else-parts-lt2+else-parts-lt3+else-parts-lt4+else-parts-lt5+else-parts-lt6}

pub returns-in-len1 : goal.returns-in-len1
returns-in-len1 c = λ names.
    c.form_of_one.ensures names
    ∙ sym (ap (λ vs. op_of names (map view vs)) (one-item c.args.parts.now c.word-item.result c.in-len1.len_at_least c.in-len1.len_below c.word-item.is))

pub returns-in-len4 : goal.returns-in-len4
returns-in-len4 c = λ names.
    c.form_of_four.ensures names
    ∙ sym (ap (λ vs. op_of names (map view vs)) (four-items c.args.parts.now c.word-item-then-parts-lt5.result c.name-item.result c.start-item.result c.count-item.result c.in-len4.len_at_least c.in-len4.len_below c.word-item-then-parts-lt5.is c.name-item.is c.start-item.is c.count-item.is))

pub returns-in-len5 : goal.returns-in-len5
returns-in-len5 c = λ names.
    c.form_of_five.ensures names
    ∙ sym (ap (λ vs. op_of names (map view vs)) (five-items c.args.parts.now c.word-item-then-parts-lt6.result c.name-item-then-parts-lt6.result c.start-item-then-parts-lt6.result c.count-item-then-parts-lt6.result c.digits-item.result c.in-len5.len_at_least c.in-len5.len_below c.word-item-then-parts-lt6.is c.name-item-then-parts-lt6.is c.start-item-then-parts-lt6.is c.count-item-then-parts-lt6.is c.digits-item.is))

pub returns-in_default : goal.returns-in_default
returns-in_default c = λ names.
    elim c.in_default.branch [
      | in_default-via-then-parts-lt1 w ↦ sym (op_of-none names c.args.parts.now (grind arith))
      | in_default-via-else-parts-lt1+else-parts-lt2+else-parts-lt3+then-parts-lt4 w ↦ sym (op_of-three names c.args.parts.now (grind arith) (grind arith))
      | in_default-via-else-parts-lt1+else-parts-lt2+else-parts-lt3+else-parts-lt4+else-parts-lt5+else-parts-lt6 w ↦ sym (op_of-many names c.args.parts.now (grind arith))
    ]
