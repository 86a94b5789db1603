use Rattle.lw_thread.proofs.PollerCalls.{poll_calls, poll_kept}
use Rattle.lw_thread.proofs.laws.a_removed_poller_is_not_called.Goals as goal

pub returns-clause-called : goal.returns-clause-called
returns-clause-called g c = poll_calls g.B.Message.Tagged.letter g.B.Message.Tagged.tag_of g.B.Message.Tagged.fits g.B.Message.Tagged.marked g.B.Body.runs g.B.Body.ticks g.B.Body.takes_back

pub returns-clause-kept : goal.returns-clause-kept
returns-clause-kept g c = poll_kept g.B.Message.Tagged.letter g.B.Message.Tagged.tag_of g.B.Message.Tagged.fits g.B.Message.Tagged.marked g.B.Body.runs g.B.Body.ticks g.B.Body.takes_back
