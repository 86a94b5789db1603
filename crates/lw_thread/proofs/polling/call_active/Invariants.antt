use Rattle.std.proofs.Common.{List, Any}
use Rattle.std.specs.Prelude.{IsTrue, ◌↔◌}
use Rattle.lw_poller.specs.Pollers.{AreKept}
use Rattle.lw_thread.specs.Polls.{Tick, WasBusy}
use Rattle.lw_thread.specs.Posting.{IsGoing, flow_tied}
use Rattle.lw_thread.proofs.Chains.{WentActive}
use Rattle.lw_thread.proofs.polling.call_active.Given as goal

-- some pollers were called
abbrev pub invariant-loop : goal.invariant-loop
invariant-loop g l = record {
  kept : AreKept l.acts.pollers;
  going : IsGoing g.B.Message.Tagged.letter g.B.Message.Tagged.fits g.B.Body.lawful l.links l.acts l.body;
  calls : List Tick;
  went : WentActive g.B.Body.ticks l.fn.now calls (flow_tied l.links l.fn.acts l.fn.body) (flow_tied l.links l.acts l.body);
  busy : IsTrue l.busy ↔ Any WasBusy calls;
}
