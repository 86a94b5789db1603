use Rattle.std.proofs.Common.{◌≡◌, replicate, None}
use Rattle.lw_judge_threads.proofs.holding.Holding.new.Given as goal

abbrev pub invariant-loop : goal.invariant-loop
invariant-loop l = l.channels.items ≡ replicate l.counter (record { gained = 0; lost = 0; pending = 0; held = None; submitted = 0 })
