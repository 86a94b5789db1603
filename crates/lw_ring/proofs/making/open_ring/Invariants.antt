use Rattle.std.proofs.Common.{Some}
use Rattle.lw_ring.proofs.making.open_ring.Given as goal

abbrev pub ghosts-open_ring_as : goal.ghosts-open_ring_as
ghosts-open_ring_as g a = record { number = a.number; family = Some g.family }
