use Rattle.lw_reactor.proofs.Turning.{slept_kept}
use Rattle.lw_reactor.proofs.reactor.Reactor.sleep.Goals as goal

pub invariant_of-self : goal.invariant_of-self
invariant_of-self g c = slept_kept _ c.sleep.new.self c.sleep.ensures c.self.invariant
