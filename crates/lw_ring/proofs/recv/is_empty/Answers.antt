use Rattle.lw_ring.proofs.Posts.{sees}
use Rattle.lw_ring.proofs.recv.is_empty.Goals as goal

pub is_empty_as-requires-clause-rule : goal.is_empty_as-requires-clause-rule
is_empty_as-requires-clause-rule g c = sees _ _ _ _ _
