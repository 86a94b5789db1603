use Rattle.std.proofs.Common.{sym, ap, ◌∙◌, inl, inr, refl}
use Rattle.std.proofs.lemmas.Bool.{false≢true}
use Rattle.std.proofs.lemmas.Result.{on_ok_weaker, IfErr-weaker}
use Rattle.lw_station.specs.Stations.{StationEnd}
use Rattle.lw_station.proofs.Going.{found_in, taken_out, above_there, above_here}
use Rattle.lw_station.proofs.station.Station.send_away.Goals as goal

pub depart-requires-clause-there : goal.depart-requires-clause-there
depart-requires-clause-there g c κs within =
    let f = c.in-Some.ensures.found in
    let list = ap (λ (x : StationEnd _ _ _ _). x.list) c.self.view_is in
    let there = found_in c.as_slice.result.now c.args.self.now.list c.args.number c.in-Some.at f.0 (c.as_slice.ensures.value ∙ list) f.1 in
    let same = taken_out c.self.inside.list.items c.args.self.now.list c.args.number c.in-Some.at f.0 c.index.result.now list there c.index.ensures in
    (c.args.number, f.0, there, above_there c.args.round f.0 c.index.result.now c.last_hop.result same c.last_hop.ensures (c.is_above.ensures.0 c.if-is_above.true))

pub returns-then-is_above-clause-sent : goal.returns-then-is_above-clause-sent
returns-then-is_above-clause-sent g c =
    let f = c.in-Some.ensures.found in
    let list = ap (λ (x : StationEnd _ _ _ _). x.list) c.self.view_is in
    let there = found_in c.as_slice.result.now c.args.self.now.list c.args.number c.in-Some.at f.0 (c.as_slice.ensures.value ∙ list) f.1 in
    on_ok_weaker c.depart.result (λ d. inl (d c.args.number f.0 there)) c.depart.ensures.left

pub returns-then-is_above-clause-stops : goal.returns-then-is_above-clause-stops
returns-then-is_above-clause-stops g c =
    let f = c.in-Some.ensures.found in
    let list = ap (λ (x : StationEnd _ _ _ _). x.list) c.self.view_is in
    let there = found_in c.as_slice.result.now c.args.self.now.list c.args.number c.in-Some.at f.0 (c.as_slice.ensures.value ∙ list) f.1 in
    IfErr-weaker c.depart.result _ _ (λ s d. d c.args.number f.0 there) c.depart.ensures.stops

pub returns-else-is_above-clause-sent : goal.returns-else-is_above-clause-sent
returns-else-is_above-clause-sent g c =
    let f = c.in-Some.ensures.found in
    let list = ap (λ (x : StationEnd _ _ _ _). x.list) c.self.view_is in
    let there = found_in c.as_slice.result.now c.args.self.now.list c.args.number c.in-Some.at f.0 (c.as_slice.ensures.value ∙ list) f.1 in
    let same = taken_out c.self.inside.list.items c.args.self.now.list c.args.number c.in-Some.at f.0 c.index.result.now list there c.index.ensures in
    inr (inr (c.in-Some.at, f.0, there, λ a. false≢true (sym c.if-is_above.false ∙ c.is_above.ensures.1 (above_here c.args.round f.0 c.index.result.now c.last_hop.result same c.last_hop.ensures a))), refl)
