use Rattle.std.proofs.Common.{◌≡◌, take}
use Rattle.std.specs.List.{list_any}
use Rattle.lw_judge_rounds.specs.OrdersOf.{is_in_round, knows}
use Rattle.lw_judge_rounds.specs.declared.orders.Move.{Move}
use Rattle.lw_judge_rounds.proofs.orders.Orders.of.Given as goal

abbrev pub invariant-loop-round : goal.invariant-loop-round
invariant-loop-round l = (m : Move) → knows l.orders m ≡ list_any (is_in_round m) (take l.round-index l.rounds)
