use Rattle.lw_world.proofs.Kept.{sound_end}
use Rattle.lw_world.proofs.world.World.end.Goals as goal

pub invariant_of-self : goal.invariant_of-self
invariant_of-self c = rw c.set.ensures (sound_end _ c.self.invariant c.args.thread (rw (← c.self.view_is) at c.requires))
