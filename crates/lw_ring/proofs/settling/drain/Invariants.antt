use Rattle.crossbeam_queue.specs.SegTies.{IsSegPassOf}
use Rattle.lw_ring.specs.Queue.{TakenOff}
use Rattle.lw_ring.proofs.settling.drain.Given as goal

abbrev pub invariant-loop : goal.invariant-loop
invariant-loop g l =
    IsSegPassOf l.queue l.pass
    × TakenOff g.T.Tagged.letter g.T.Tagged.tag_of g.T.Tagged.fits l.initial.pass.me.view.client l.pass.me.view.client l.initial.left.items l.left.items
