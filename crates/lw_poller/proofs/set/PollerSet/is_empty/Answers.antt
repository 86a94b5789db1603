use Rattle.std.proofs.Common.{subst}
use Rattle.lw_poller.specs.Pollers.{AreKept}
use Rattle.lw_poller.proofs.Keeping.{kept}
use Rattle.lw_poller.proofs.set.PollerSet.is_empty.Goals as goal

pub returns-then-is_empty-2-clause-kept : goal.returns-then-is_empty-2-clause-kept
returns-then-is_empty-2-clause-kept c = subst AreKept c.self.view_is (kept _ _ c.self.invariant.0)

pub returns-else-is_empty-2-clause-kept : goal.returns-else-is_empty-2-clause-kept
returns-else-is_empty-2-clause-kept c = subst AreKept c.self.view_is (kept _ _ c.self.invariant.0)
