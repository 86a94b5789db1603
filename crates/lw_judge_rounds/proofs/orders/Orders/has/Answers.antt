use Rattle.std.proofs.Common.{◌∙◌}
use Rattle.lw_judge_rounds.specs.OrdersOf.{is_move}
use Rattle.lw_judge_rounds.proofs.orders.Orders.has.Goals as goal

pub returns : goal.returns
unfolding is_move
returns c = λ r are. c.contains.ensures ∙ are.each (record { round = c.args.hop.now.round; thread = c.args.thread; to = c.args.hop.now.reactor })
