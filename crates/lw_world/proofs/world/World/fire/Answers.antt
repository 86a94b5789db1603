use Rattle.lw_world.proofs.Kept.{sound_fire}
use Rattle.lw_world.proofs.world.World.fire.Goals as goal

pub invariant_of-self : goal.invariant_of-self
invariant_of-self c = rw c.set.ensures (sound_fire _ c.self.invariant c.args.thread c.args.device (rw (← c.self.view_is) at c.requires))
