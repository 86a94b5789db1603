-- The limits, by themselves.
use Rattle.std.specs.Prelude.{List, [], ◌∷◌, Option}
use Rattle.lw_model.specs.declared.script.Script.{Script}
use Rattle.lw_model.specs.declared.refusal.ScriptRefusal.{ScriptRefusal}
use Rattle.lw_model.specs.declared.refusal.ScriptRefusal.TheVariants.{Limit}
use Rattle.lw_model.specs.ScriptRules.{unless, first_some, has_image_count, has_block_sizes, has_image_sizes, has_client_count, has_depths, has_op_count, has_pool_counts, has_round_count, has_wait_times}

-- what each limit answers, in order
abbrev pub limit_answers : Script → List (Option ScriptRefusal)
limit_answers s =
    (unless (has_image_count s) (Limit 1)
    ∷ unless (has_block_sizes s) (Limit 2)
    ∷ unless (has_image_sizes s) (Limit 3)
    ∷ unless (has_client_count s) (Limit 4)
    ∷ unless (has_depths s) (Limit 5)
    ∷ unless (has_op_count s) (Limit 6)
    ∷ unless (has_pool_counts s) (Limit 7)
    ∷ unless (has_round_count s) (Limit 8)
    ∷ unless (has_wait_times s) (Limit 9)
    ∷ [])

abbrev pub limit_broken : Script → Option ScriptRefusal
limit_broken s = first_some (limit_answers s)
