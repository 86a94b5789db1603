use Rattle.std.proofs.Common.{ap, sym, ◌∙◌, nat_lt}
use Rattle.lw_world.specs.Sums.{at, sum_below}
use Rattle.lw_world.proofs.Worlds.{any_some}
use Rattle.lw_world.proofs.world.World.owns_some.Goals as goal

pub returns : goal.returns
returns c =
    let cells = c.self.inside.channels.cells in
    rw (← c.self.view_is) (
    ap (nat_lt 0) (c.row.ensures.sum ∙ ap (λ n. sum_below n (at cells c.args.thread)) c.self.invariant.channels.columns_are)
    ∙ sym (any_some c.self.inside.devices (at cells c.args.thread)))
