use Rattle.std.proofs.Common.{ap, ◌∙◌, ◌+◌, ◌-◌, length}
use Rattle.lw_world.proofs.Sums.{sum-part}
use Rattle.lw_world.specs.Sums.{at, sum_below}
use Rattle.lw_world.proofs.Tallies.{tallied_put}
use Rattle.lw_world.proofs.tally.Tally.set.Goals as goal

pub moved-of_row-requires-clause-part : goal.moved-of_row-requires-clause-part
moved-of_row-requires-clause-part c =
    rw c.at-old.ensures.count (rw c.row.ensures.sum (sum-part c.args.self.now.columns (at c.args.self.now.cells c.args.row) c.args.column c.requires.column))

pub moved-of_column-requires-clause-part : goal.moved-of_column-requires-clause-part
moved-of_column-requires-clause-part c =
    rw c.at-old.ensures.count (rw c.column.ensures.sum (sum-part c.args.self.now.rows (λ x. at c.args.self.now.cells x c.args.column) c.args.row c.requires.row))

pub invariant_of-self : goal.invariant_of-self
invariant_of-self c =
    let cells = c.self.inside.cells.items in
    let rows = c.self.inside.rows.items in
    let columns = c.self.inside.columns.items in
    let was = rw (← c.self.view_is) at c.at-old.ensures.count in
    let row = rw (← c.self.view_is) at c.row.ensures.sum in
    let column = rw (← c.self.view_is) at c.column.ensures.sum in
    tallied_put cells rows columns c.args.row c.args.column c.args.count c.self.invariant
    (rw (← c.self.view_is) at c.requires.row) (rw (← c.self.view_is) at c.requires.column)
    c.moved-of_row.result c.moved-of_column.result c.requires.small
    (c.moved-of_row.ensures ∙ ap (λ n. n + c.args.count - c.at-old.result) row ∙ ap (λ n. sum_below (length columns) (at cells c.args.row) + c.args.count - n) was)
    (c.moved-of_column.ensures ∙ ap (λ n. n + c.args.count - c.at-old.result) column ∙ ap (λ n. sum_below (length rows) (λ x. at cells x c.args.column) + c.args.count - n) was)
