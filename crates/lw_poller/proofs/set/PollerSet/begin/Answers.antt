use Rattle.std.proofs.Common.{arith}
use Rattle.lw_poller.proofs.Keeping.{kept}
use Rattle.lw_poller.proofs.set.PollerSet.begin.Goals as goal

pub returns-clause-kept : goal.returns-clause-kept
returns-clause-kept c =
    let k = kept _ _ c.self.invariant.0 in
    record {
      once = k.once;
      low = k.low;
      by_due = k.by_due;
      turn = omega arith;
      before = (let e = c.len-self-inside.ensures in omega arith);
    }
