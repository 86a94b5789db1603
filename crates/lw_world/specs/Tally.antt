-- A table of counts with the sums of its rows and columns.
use Rattle.std.specs.Prelude.{◌≡◌, ℕ, ◌*◌, ◌<◌, ◌≤◌, List, length, slice_index}
use Rattle.lw_world.specs.Sums.{at, sum_below}

-- a table of so many rows and columns
pub record Counts : Type 0 where
  pub rows : ℕ
  pub columns : ℕ
  pub cells : List ℕ

pub record IsTallied (cells rows columns : List ℕ) : Type 0 where
  pub size : length cells ≡ length rows * 81
  pub few_rows : length rows ≤ 81
  pub few_columns : length columns ≤ 81
  pub small : (x y : ℕ) → at cells x y ≤ 1099511627776
  pub row : (x : ℕ) → x < length rows → slice_index rows x ≡ sum_below (length columns) (at cells x)
  pub column : (y : ℕ) → y < length columns → slice_index columns y ≡ sum_below (length rows) (λ x. at cells x y)
