use Rattle.lw_ring.proofs.Posts.{posts}
use Rattle.lw_ring.proofs.ends.push.Goals as goal

pub push_as-requires-clause-rule : goal.push_as-requires-clause-rule
push_as-requires-clause-rule g c = λ n. posts g.T.Tagged.letter g.T.Tagged.tag_of g.T.Tagged.fits n _ _ c.args.parcel c.requires.sender.0 c.requires.sender.1 c.requires.names c.requires.fits c.requires.room
