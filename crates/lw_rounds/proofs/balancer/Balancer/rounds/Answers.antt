use Rattle.std.proofs.Common.{subst, All}
use Rattle.lw_base.specs.declared.moves.Round.{Round}
use Rattle.lw_rounds.specs.Rounds.{BalancerEnd, Sends}
use Rattle.lw_rounds.proofs.Planning.{rounds_send}
use Rattle.lw_rounds.proofs.balancer.Balancer.rounds.Goals as goal

pub returns-clause-sends : goal.returns-clause-sends
returns-clause-sends c =
    let b : BalancerEnd = record {
      reactors = c.self.inside.reactors;
      masks = c.self.inside.masks.items;
      period = c.self.inside.period;
      meter = c.self.inside.meter;
      first = c.self.inside.first;
      rounds = c.self.inside.rounds.items;
    } in
    subst (λ (e : BalancerEnd). All (λ (x : Round). All (Sends e.reactors x.rows) x.orders) e.rounds) c.self.view_is
    (rounds_send b c.self.invariant.some_reactors c.self.invariant.rounds)
