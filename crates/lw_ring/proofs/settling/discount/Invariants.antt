use Rattle.lw_ring.proofs.Tallies.{Less}
use Rattle.lw_ring.proofs.settling.discount.Given as goal

abbrev pub invariant-loop-value : goal.invariant-loop-value
invariant-loop-value g l = Less g.T.Tagged.letter g.T.Tagged.tag_of l.counts l.initial.counts l.value-index l.left
