use Rattle.std.proofs.Common.{arith}
use Rattle.lw_world.proofs.Kept.{run_less, sound_run}
use Rattle.lw_world.proofs.world.World.run_next.Goals as goal

pub set-requires-clause-small : goal.set-requires-clause-small
set-requires-clause-small c =
    let less = run_less _ c.self.invariant c.args.receiver c.args.sender (rw (← c.self.view_is) at c.requires) in
    let few = c.self.invariant.small c.args.sender c.args.receiver in
    omega (arith, less, few, c.at-run.ensures.count)

pub invariant_of-self : goal.invariant_of-self
invariant_of-self c =
    rw c.set.ensures (rw c.at-run.ensures.count (sound_run _ c.self.invariant c.args.receiver c.args.sender (rw (← c.self.view_is) at c.requires)))
