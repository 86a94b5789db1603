use Rattle.std.proofs.Common.{◌≡◌, [], take, drop, reverse}
use Rattle.lw_model.specs.declared.record.Record.{Record}
use Rattle.lw_model.specs.Moves.{hop_fits}
use Rattle.lw_judge_threads.specs.Firsts.{first_unfit}
use Rattle.lw_judge_rounds.specs.OrdersOf.{AreOrders, least_round}
use Rattle.lw_judge_rounds.proofs.orders.Orders.unfit_hop.Given as goal

abbrev pub invariant-loop-place : goal.invariant-loop-place
invariant-loop-place l = record {
  left : (r : Record) → AreOrders r.rounds l.self → first_unfit (hop_fits r l.thread) 0 [] l.hops ≡ first_unfit (hop_fits r l.thread) l.place (reverse (take l.place l.hops)) (drop l.place l.hops);
  least : l.least ≡ least_round (reverse (take l.place l.hops));
}
