use Rattle.std.proofs.Common.{◌≡◌, map, take}
use Rattle.lw_event.specs.Sleepers.{SleeperEnd, new_waker}
use Rattle.lw_event.proofs.sleeper.wakers.Given as goal

abbrev pub invariant-loop-sleeper : goal.invariant-loop-sleeper
invariant-loop-sleeper l = l.wakers.items ≡ map (λ (s : SleeperEnd). new_waker s.parker) (take l.sleeper-index l.sleepers)
