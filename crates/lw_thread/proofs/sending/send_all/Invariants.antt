use Rattle.std.proofs.Common.{List, Bool}
use Rattle.lw_thread.specs.Posting.{IsGoing, IsSending, flow_tied}
use Rattle.lw_thread.proofs.Chains.{Went}
use Rattle.lw_thread.proofs.sending.send_all.Given as goal

-- some sends were made or came back
abbrev pub invariant-loop : goal.invariant-loop
invariant-loop g l = record {
  going : IsGoing g.B.Message.Tagged.letter g.B.Message.Tagged.fits g.B.Body.lawful l.links l.acts l.body;
  same : IsSending l.fn.links l.links;
  returned : List Bool;
  went : Went l.fn.links.thread g.B.Message.Tagged.letter g.B.Message.Tagged.marked g.B.Body.takes_back returned (flow_tied l.fn.links l.fn.acts l.fn.body) (flow_tied l.links l.acts l.body);
}
