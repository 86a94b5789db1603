use Rattle.std.proofs.Common.{◌≡◌, replicate, false}
use Rattle.lw_judge_devices.proofs.devices.Tells.new.Given as goal

abbrev pub invariant-loop : goal.invariant-loop
invariant-loop l = l.all.items ≡ replicate l.counter (record { began = false; shut = false })
