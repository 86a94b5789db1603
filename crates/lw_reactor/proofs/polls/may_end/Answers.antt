use Rattle.lw_reactor.proofs.Trying.{may_there}
use Rattle.lw_reactor.proofs.polls.may_end.Goals as goal

pub returns : goal.returns
returns g c = λ thread i. may_there g.B.Body.ends c.args.at _ c.args.station.now thread c.index.result.now c.may_end.result c.station.view_is i c.index.ensures c.may_end.ensures
