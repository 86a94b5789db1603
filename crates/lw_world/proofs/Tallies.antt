-- A tally keeps its sums.
use Rattle.std.proofs.Common.{◌≡◌, ◌≢◌, ◌≤◌, ◌<◌, inl, inr, ℕ, ◌+◌, ◌-◌, ◌*◌, List, length, sym, ap, ◌∙◌, arith, slice_index, slice_set, replicate}
use Rattle.std.proofs.lemmas.List.{get_or-set_other, get_or-replicate, length-replicate, length-set}
use Rattle.std.proofs.lemmas.Grind.{get_or-set_at}
use Rattle.lw_world.specs.Sums.{at, put, sum_below}
use Rattle.lw_world.specs.Tally.{IsTallied}
use Rattle.lw_world.proofs.Sums.{same_or_not, sum-same, sum-changed, sum-zero, sum-few, at-put_same, at-put_other, at-put_small, other_row, other_column, at-zeros}

pub tallied_zeros : (rows columns : ℕ) → rows ≤ 81 → columns ≤ 81 → IsTallied (replicate (rows * 81) 0) (replicate rows 0) (replicate columns 0)
tallied_zeros rows columns few_rows few_columns =
    let zero = at-zeros (rows * 81) in
    let row_count = length-replicate {A = ℕ} rows 0 in
    let column_count = length-replicate {A = ℕ} columns 0 in record {
      size = length-replicate {A = ℕ} (rows * 81) 0 ∙ ap (λ n. n * 81) (sym row_count);
      few_rows = omega (arith, row_count, few_rows);
      few_columns = omega (arith, column_count, few_columns);
      small = λ x y. let none = zero x y in omega (arith, none);
      row = λ x below.
          get_or-replicate rows x 0 0 (omega (arith, row_count, below))
          ∙ sym (sum-same (length (replicate columns 0)) (λ y. 0) (at (replicate (rows * 81) 0) x) (λ y h. zero x y) ∙ sum-zero (length (replicate columns 0)));
      column = λ y below.
          get_or-replicate columns y 0 0 (omega (arith, column_count, below))
          ∙ sym (sum-same (length (replicate rows 0)) (λ x. 0) (λ x. at (replicate (rows * 81) 0) x y) (λ x h. zero x y) ∙ sum-zero (length (replicate rows 0)));
    }

-- one number of a list of sums is changed as the sum is
sums_step : (sums : List ℕ) (k w i : ℕ) (now : ℕ → ℕ) → k < length sums → (i ≢ k → slice_index sums i ≡ now i) → w ≡ now k → slice_index (slice_set sums k w) i ≡ now i
sums_step sums k w i now within others this = elim (same_or_not i k) [
  | inl e ↦ get_or-set_at sums k i w 0 e within ∙ this ∙ ap now (sym e)
  | inr apart ↦ get_or-set_other sums k i w 0 apart ∙ others apart
]

module _ (cells rows columns : List ℕ) (x y v : ℕ) (before : IsTallied cells rows columns) (row_in : x < length rows) (column_in : y < length columns) where
  narrow : y < 81
  narrow = omega (arith, column_in, before.few_columns)

  within : x * 81 + y < length cells
  within = omega (arith, row_in, narrow, before.size)

  row_others : (i : ℕ) → i ≢ x → i < length rows → slice_index rows i ≡ sum_below (length columns) (at (put cells x y v) i)
  row_others i apart below =
      before.row i below
      ∙ sym (sum-same (length columns) (at cells i) (at (put cells x y v) i) (λ j h. at-put_other cells x y v i j (λ near. other_row x y i j narrow near apart)))

  row_this : sum_below (length columns) (at cells x) + v - at cells x y ≡ sum_below (length columns) (at (put cells x y v) x)
  row_this =
      let changed = sum-changed (length columns) (at cells x) (at (put cells x y v) x) y column_in (λ j apart. at-put_other cells x y v x j (λ near. other_column x y x j narrow near apart)) in
      let here = at-put_same cells x y v narrow within in
      omega (arith, changed, here)

  column_others : (j : ℕ) → j ≢ y → j < length columns → slice_index columns j ≡ sum_below (length rows) (λ i. at (put cells x y v) i j)
  column_others j apart below =
      before.column j below
      ∙ sym (sum-same (length rows) (λ i. at cells i j) (λ i. at (put cells x y v) i j) (λ i h. at-put_other cells x y v i j (λ near. other_column x y i j narrow near apart)))

  column_this : sum_below (length rows) (λ i. at cells i y) + v - at cells x y ≡ sum_below (length rows) (λ i. at (put cells x y v) i y)
  column_this =
      let changed = sum-changed (length rows) (λ i. at cells i y) (λ i. at (put cells x y v) i y) x row_in (λ i apart. at-put_other cells x y v i y (λ near. other_row x y i y narrow near apart)) in
      let here = at-put_same cells x y v narrow within in
      omega (arith, changed, here)

  pub tallied_put : (of_row of_column : ℕ) → v ≤ 1099511627776
      → of_row ≡ sum_below (length columns) (at cells x) + v - at cells x y
      → of_column ≡ sum_below (length rows) (λ i. at cells i y) + v - at cells x y
      → IsTallied (put cells x y v) (slice_set rows x of_row) (slice_set columns y of_column)
  tallied_put of_row of_column small row_is column_is =
      let row_count : length (slice_set rows x of_row) ≡ length rows = length-set rows x of_row in
      let column_count : length (slice_set columns y of_column) ≡ length columns = length-set columns y of_column in record {
        size = length-set cells (x * 81 + y) v ∙ before.size ∙ ap (λ n. n * 81) (sym row_count);
        few_rows = omega (arith, row_count, before.few_rows);
        few_columns = omega (arith, column_count, before.few_columns);
        small = λ i j. at-put_small cells x y v i j 1099511627776 small (before.small i j);
        row = λ i below.
            sums_step rows x of_row i (λ k. sum_below (length columns) (at (put cells x y v) k)) row_in (λ apart. row_others i apart (omega (arith, below, row_count))) (row_is ∙ row_this)
            ∙ ap (λ n. sum_below n (at (put cells x y v) i)) (sym column_count);
        column = λ j below.
            sums_step columns y of_column j (λ k. sum_below (length rows) (λ i. at (put cells x y v) i k)) column_in (λ apart. column_others j apart (omega (arith, below, column_count))) (column_is ∙ column_this)
            ∙ ap (λ n. sum_below n (λ i. at (put cells x y v) i j)) (sym row_count);
      }

pub row_few : (cells rows columns : List ℕ) (x : ℕ) → IsTallied cells rows columns → x < length rows → slice_index rows x ≤ 89060441849856
row_few cells rows columns x h below =
    let sum = h.row x below in
    let few = sum-few (length columns) (at cells x) h.few_columns (h.small x) in
    omega (arith, sum, few)

pub column_few : (cells rows columns : List ℕ) (y : ℕ) → IsTallied cells rows columns → y < length columns → slice_index columns y ≤ 89060441849856
column_few cells rows columns y h below =
    let sum = h.column y below in
    let few = sum-few (length rows) (λ x. at cells x y) h.few_rows (λ x. h.small x y) in
    omega (arith, sum, few)
