use Rattle.std.proofs.Common.{take}
use Rattle.lw_reactor.specs.Rounding.{SendsOrders}
use Rattle.lw_reactor.proofs.rounds.send_orders.Given as goal

-- the first orders were sent
abbrev pub invariant-loop-next : goal.invariant-loop-next
invariant-loop-next g l = SendsOrders l.round (take l.next-index l.next-items) l.fn.events l.events l.fn.sleeper l.sleeper
