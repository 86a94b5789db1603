use Rattle.std.proofs.Common.{◌≡◌, drop, length}
use Rattle.lw_reactor.specs.Rounding.{telling}
use Rattle.lw_reactor.proofs.rounds.tell_sums.Given as goal

-- the sums of the others are to be told
abbrev pub invariant-loop-thread : goal.invariant-loop-thread
invariant-loop-thread g l = record {
  rest : telling (drop l.thread-index l.threads) l.balancer ≡ telling l.threads l.fn.balancer;
  masks : length l.balancer.masks ≡ length l.fn.balancer.masks;
}
