use Rattle.std.proofs.Common.{length, ap}
use Rattle.lw_rounds.specs.Measures.{MeterEnd}
use Rattle.lw_rounds.specs.Rounds.{BalancerEnd}
use Rattle.lw_rounds.proofs.Rounding.{keeps_read}
use Rattle.lw_rounds.proofs.balancer.Balancer.tell.Goals as goal

pub invariant_of-self : goal.invariant_of-self
invariant_of-self c =
    let b : BalancerEnd = record {
      reactors = c.self.inside.reactors;
      masks = c.self.inside.masks.items;
      period = c.self.inside.period;
      meter = c.self.inside.meter;
      first = c.self.inside.first;
      rounds = c.self.inside.rounds.items;
    } in
    keeps_read c.self.inside.stands.items b c.tell.new.self (ap (λ (m : MeterEnd). length m.cells) c.tell.ensures) c.self.invariant
