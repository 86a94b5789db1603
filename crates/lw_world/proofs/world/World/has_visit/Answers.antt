use Rattle.std.proofs.Common.{ap, sym, ◌∙◌, nat_lt}
use Rattle.lw_world.specs.Sums.{at, sum_below}
use Rattle.lw_world.proofs.Worlds.{any_some}
use Rattle.lw_world.proofs.world.World.has_visit.Goals as goal

pub returns : goal.returns
returns c =
    let cells = c.self.inside.visits.cells in
    let device = c.args.device in
    rw (← c.self.view_is) (
    ap (nat_lt 0) (c.column.ensures.sum ∙ ap (λ n. sum_below n (λ t. at cells t device)) c.self.invariant.visits.rows_are)
    ∙ sym (any_some c.self.inside.threads (λ t. at cells t device)))
