use Rattle.lw_world.proofs.Registers.{few_at}
use Rattle.lw_world.proofs.register.Register.push.Goals as goal

pub more-requires-clause-few : goal.more-requires-clause-few
more-requires-clause-few g c =
    few_at g.S.Keyed.key c.self.inside.states.items c.self.inside.counts.items c.self.invariant c.key.result
    (rw c.key.ensures (rw (← c.self.view_is) at c.requires.key))
