use Rattle.std.proofs.Common.{Some}
use Rattle.lw_ring.proofs.making.ring.Given as goal

abbrev pub ghosts-ring_as : goal.ghosts-ring_as
ghosts-ring_as g a = record { number = a.number; family = Some g.family }
