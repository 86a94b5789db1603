use Rattle.std.proofs.Common.{take}
use Rattle.lw_reactor.specs.Polling.{OrdersStarts}
use Rattle.lw_reactor.proofs.polls.start_each.Given as goal

-- the first threads were ordered to be started
abbrev pub invariant-loop-thread : goal.invariant-loop-thread
invariant-loop-thread g l = OrdersStarts l.homes (take l.thread-index l.started) l.fn.events l.events l.fn.sleeper l.sleeper
