-- The first place at which two lists of orders differ.
use Rattle.std.specs.Prelude.{ℕ, ◌+◌, cond, List, [], ◌∷◌, Option, Some, None}
use Rattle.lw_base.specs.declared.moves.Order.{Order}
use Rattle.lw_model.specs.Same.{is_same_order}

-- counted from n; where one list is longer, the place behind the other's last
abbrev pub first_difference : ℕ → List Order → List Order → Option ℕ
first_difference n [] [] = None
first_difference n (w ∷ plan) [] = Some n
first_difference n [] (o ∷ orders) = Some n
first_difference n (w ∷ plan) (o ∷ orders) = cond (is_same_order w o) (first_difference (n + 1) plan orders) (Some n)
