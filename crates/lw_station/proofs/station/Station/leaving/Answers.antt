use Rattle.std.proofs.Common.{ap}
use Rattle.lw_station.specs.Stations.{StationEnd}
use Rattle.lw_station.proofs.Going.{leaves_as, leave_range, may_leave}
use Rattle.lw_station.proofs.station.Station.leaving.Goals as goal

pub leave_for-requires-clause-place : goal.leave_for-requires-clause-place
leave_for-requires-clause-place g c κs within =
    let f = c.requires.there in
    let k = c.requires.station in
    let list = ap (λ (x : StationEnd _ _ _ _). x.list) c.self.view_is in
    may_leave k.0 k.1 c.args.self.now c.self.inside.list.items f.0 c.args.at f.1 c.remove-thread.result k.2 list f.2 c.remove-thread.ensures.value

pub leave_for-requires-clause-range : goal.leave_for-requires-clause-range
leave_for-requires-clause-range g c κs within =
    let f = c.requires.there in
    let k = c.requires.station in
    let list = ap (λ (x : StationEnd _ _ _ _). x.list) c.self.view_is in
    leave_range k.0 k.1 c.args.self.now c.self.inside.list.items f.0 c.args.at c.args.to f.1 c.remove-thread.result k.2 list f.2 c.remove-thread.ensures.value c.requires.range

pub returns-clause-event : goal.returns-clause-event
returns-clause-event g c = λ number thread i.
    let list = ap (λ (x : StationEnd _ _ _ _). x.list) c.self.view_is in
    leaves_as c.self.inside.list.items c.args.self.now.list c.args.round number c.args.at c.args.to thread c.remove-thread.result c.leave_for.new.self c.arrive.result list i c.remove-thread.ensures.value c.leave_for.ensures.left c.arrive.ensures
