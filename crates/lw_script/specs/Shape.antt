-- The rules on a value's shape and version, by themselves.
use Rattle.std.specs.Prelude.{Bool, List, [], ◌∷◌, is_some, Option}
use Rattle.std.specs.List.{list_all}
use Rattle.serde_json.specs.Data.{Data}
use Rattle.lw_model.specs.declared.refusal.ScriptRefusal.{ScriptRefusal}
use Rattle.lw_model.specs.declared.refusal.ScriptRefusal.TheVariants.{Shape, Version}
use Rattle.lw_model.specs.ScriptRules.{unless, first_some}
use Rattle.lw_model.specs.ScriptShape.{has_the_keys, has_a_version, has_a_pool, has_images, has_clients, has_op_forms, has_version_1, ops_in, op_in}

-- what each rule answers, in order
abbrev pub shape_answers : Data → List (Option ScriptRefusal)
shape_answers d =
    (unless (has_the_keys d) (Shape 1)
    ∷ unless (has_a_version d) (Shape 2)
    ∷ unless (has_a_pool d) (Shape 3)
    ∷ unless (has_images d) (Shape 4)
    ∷ unless (has_clients d) (Shape 5)
    ∷ unless (has_op_forms d) (Shape 6)
    ∷ unless (has_version_1 d) Version
    ∷ [])

abbrev pub shape_broken : Data → Option ScriptRefusal
shape_broken d = first_some (shape_answers d)

-- a client's ops are of the forms of ops
abbrev pub has_op_forms_in : Data → Bool
has_op_forms_in client = list_all (λ o. is_some (op_in [] o)) (ops_in client)
