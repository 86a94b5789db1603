use Rattle.std.proofs.lemmas.Result.{IfErr-weaker}
use Rattle.lw_station.proofs.Turning.{out_kept, out_goes, stops_is}
use Rattle.lw_station.proofs.station.Station.handle_next.Goals as goal

pub handle-requires-clause-station : goal.handle-requires-clause-station
handle-requires-clause-station g c κs within =
    let k = c.requires.station in
    let next = c.in-Some.ensures.next in
    (k.0, k.1, out_kept k.0 k.1 _ c.args.self.now c.in-Some.event c.next.new.self c.self.view_is next k.2, out_goes k.1 _ c.args.self.now c.in-Some.event c.next.new.self c.self.view_is next k.3)

pub returns-clause-stops : goal.returns-clause-stops
returns-clause-stops g c =
    let k = c.requires.station in
    IfErr-weaker c.handle.result _ _
    (λ s h. (c.in-Some.event, stops_is k.0 k.1 _ c.args.self.now c.handle.new.self c.in-Some.event c.next.new.self s c.self.view_is c.in-Some.ensures.next k.2 c.in-Some.ensures.fits h)) c.handle.ensures.stops
