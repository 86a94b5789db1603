use Rattle.std.proofs.lemmas.Result.{on_ok_weaker}
use Rattle.lw_station.proofs.Going.{obeyed_away}
use Rattle.lw_station.proofs.station.Station.obey.Goals as goal

pub returns-else-round-eq0-clause-obeyed : goal.returns-else-round-eq0-clause-obeyed
returns-else-round-eq0-clause-obeyed g c =
    on_ok_weaker c.send_away.result (obeyed_away c.args.round c.args.thread c.args.to c.args.self.now c.send_away.new.self c.if-round-eq0.false) c.send_away.ensures.sent
