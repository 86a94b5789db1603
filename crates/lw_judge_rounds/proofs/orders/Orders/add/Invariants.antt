use Rattle.std.proofs.Common.{◌≡◌, ◌||◌, take}
use Rattle.lw_judge_rounds.specs.OrdersOf.{knows}
use Rattle.lw_judge_rounds.specs.declared.orders.Move.{Move}
use Rattle.lw_judge_rounds.proofs.KnownMoves.{of_orders}
use Rattle.lw_judge_rounds.proofs.orders.Orders.add.Given as goal

abbrev pub invariant-loop-order : goal.invariant-loop-order
invariant-loop-order l = (m : Move) → knows l.self m ≡ (knows l.initial.self m || of_orders m l.round.number (take l.order-index l.round.orders))
