use Rattle.std.proofs.Common.{◌≡◌, ◌++◌, map, take, drop}
use Rattle.lw_event.specs.Sleepers.{once_more}
use Rattle.lw_event.proofs.sleeper.Sleeper.wake_all.Given as goal

abbrev pub invariant-loop-waker : goal.invariant-loop-waker
invariant-loop-waker l = l.waker-items ≡ map once_more (take l.waker-index l.fn.self.wakers) ++ drop l.waker-index l.fn.self.wakers
