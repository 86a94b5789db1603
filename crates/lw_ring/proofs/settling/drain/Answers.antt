use Rattle.std.proofs.Common.{rules}
use Rattle.lw_ring.proofs.Handing.{none_off, one_off, still_gets}
use Rattle.lw_ring.proofs.settling.drain.Goals as goal

pub loop-init : goal.loop-init
loop-init g c = (search rules, none_off g.T.Tagged.letter g.T.Tagged.tag_of g.T.Tagged.fits _ _ c.requires.short)

pub pop-requires-clause-receiver : goal.pop-requires-clause-receiver
pop-requires-clause-receiver g c = still_gets g.T.Tagged.letter g.T.Tagged.tag_of g.T.Tagged.fits _ _ _ _ c.loop.invariant.1 c.requires.receiver.0 c.requires.receiver.1

pub loop-preserved : goal.loop-preserved
loop-preserved g c = (search rules, one_off g.T.Tagged.letter g.T.Tagged.tag_of g.T.Tagged.fits _ _ _ c.in-Some-pop.parcel _ _ _ c.loop.invariant.1 c.in-Some-pop.ensures.told c.in_ok-add_all-in-Some-pop.ensures)
