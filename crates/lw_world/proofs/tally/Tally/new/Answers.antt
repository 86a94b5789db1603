use Rattle.lw_world.proofs.Tallies.{tallied_zeros}
use Rattle.lw_world.proofs.tally.Tally.new.Goals as goal

pub invariant_of-result : goal.invariant_of-result
invariant_of-result c =
    rw c.in_ok-cells.ensures (rw c.in_ok-rows.ensures (rw c.in_ok-columns.ensures (tallied_zeros c.args.rows c.args.columns c.requires.rows c.requires.columns)))
