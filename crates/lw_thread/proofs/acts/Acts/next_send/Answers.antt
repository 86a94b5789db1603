use Rattle.std.proofs.Common.{◌≡◌, ◌<◌, subst}
use Rattle.std.specs.Prelude.{IfSome}
use Rattle.lw_thread.specs.Acts.{ActsEnd}
use Rattle.lw_thread.proofs.Asking.{asked_rest, asked_first}
use Rattle.lw_thread.proofs.acts.Acts.next_send.Goals as goal

pub invariant_of-self : goal.invariant_of-self
invariant_of-self g c = (asked_rest g.M.Tagged.letter g.M.Tagged.marked c.self.inside.threads c.self.inside.asked.items c.pop_front.result c.pop_front.new.self.items c.pop_front.ensures.items c.self.invariant.0, c.self.invariant.1, c.self.invariant.2)

pub returns-clause-kept : goal.returns-clause-kept
returns-clause-kept g c =
    subst (λ (a : ActsEnd _). IfSome c.pop_front.result (λ s. (s.to < a.threads) × (g.M.Tagged.letter s.message ≡ g.M.Tagged.marked (g.M.Tagged.letter s.message) 0 0))) c.self.view_is
    (asked_first g.M.Tagged.letter g.M.Tagged.marked c.self.inside.threads c.self.inside.asked.items c.pop_front.result c.pop_front.new.self.items c.pop_front.ensures.items c.self.invariant.0)
