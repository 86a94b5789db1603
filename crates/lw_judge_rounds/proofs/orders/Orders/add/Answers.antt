use Rattle.std.proofs.Common.{◌≡◌, ◌||◌, ◌+◌, get_or, take, subst, sym, refl}
use Rattle.lw_base.specs.declared.moves.Order.{Order}
use Rattle.lw_judge_rounds.specs.declared.orders.Move.{Move}
use Rattle.lw_judge_rounds.specs.OrdersOf.{is_move, knows}
use Rattle.lw_judge_rounds.proofs.KnownMoves.{known_more, of_orders, order_more}
use Rattle.lw_judge_rounds.proofs.orders.Orders.add.Goals as goal

pub loop-order-preserved : goal.loop-order-preserved
unfolding is_move
loop-order-preserved c = λ m.
    let orders = c.as_slice-order-items.result.now in
    let i = c.loop-order.order-index in
    let none : Order = record { thread = 0; to = 0 } in
    let o = get_or orders i none in
    let v : Move = record { round = c.args.round.now.number; thread = o.thread; to = o.to } in
    let set = c.in_ok-insert.ensures in
    subst (λ os. knows (record { moves = c.insert.new.self }) m ≡ (knows c.args.self.now m || of_orders m c.args.round.now.number (take (i + 1) os))) c.as_slice-order-items.ensures
    (order_more m v (knows c.loop-order.self m) (knows (record { moves = c.insert.new.self }) m) c.args.round.now.number orders i none (knows c.args.self.now m) c.loop-order-test.true refl
    (subst (λ os. knows c.loop-order.self m ≡ (knows c.args.self.now m || of_orders m c.args.round.now.number (take i os))) (sym c.as_slice-order-items.ensures) (c.loop-order.invariant m))
    (known_more v (knows c.loop-order.self) (knows (record { moves = c.insert.new.self })) set.updates.1 set.updates.2 m))
