use Rattle.std.proofs.lemmas.Grind.{get_or_default_zero}
use Rattle.std.proofs.Common.{arith, ◌<◌, length}
use Rattle.lw_world.proofs.Tallies.{column_few}
use Rattle.lw_world.proofs.tally.Tally.column.Goals as goal

pub returns-clause-small : goal.returns-clause-small
returns-clause-small c =
    let below : c.args.column < length c.self.inside.columns.items = rw (← c.self.view_is) at c.requires in
    let few = column_few c.self.inside.cells.items c.self.inside.rows.items c.self.inside.columns.items c.args.column c.self.invariant below in
    let read = get_or_default_zero c.self.inside.columns.items c.args.column c.index.result.now below in
    omega (arith, few, read, c.index.ensures)
