use Rattle.std.proofs.Common.{sym, ap, ◌∙◌, inl}
use Rattle.lw_place.specs.declared.place.Place.TheVariants as place
use Rattle.lw_station.specs.Stations.{StationEnd}
use Rattle.lw_station.proofs.Going.{found_in, taken_out, held_place, starts_is}
use Rattle.lw_station.proofs.station.Station.start.Goals as goal

pub start-requires-after_bounds : goal.start-requires-after_bounds
start-requires-after_bounds g c κs within =
    let f = c.in-Some.ensures.found in
    let k = c.requires.station in
    let held = ap (λ (x : StationEnd _ _ _ _). x.held) c.self.view_is in
    let there = found_in c.as_slice.result.now c.args.self.now.held c.args.number c.in-Some.at f.0 (c.as_slice.ensures.value ∙ held) f.1 in
    let same = taken_out c.self.inside.held.items c.args.self.now.held c.args.number c.in-Some.at f.0 c.remove-thread.result held there c.remove-thread.ensures.value in
    (c.args.self.now.number, held_place k.0 k.1 c.args.self.now c.args.number c.in-Some.at f.0 c.remove-thread.result k.2 there same)

pub returns : goal.returns
returns g c =
    let f = c.in-Some.ensures.found in
    let k = c.requires.station in
    let held = ap (λ (x : StationEnd _ _ _ _). x.held) c.self.view_is in
    let here = found_in c.as_slice.result.now c.self.inside.held.items c.args.number c.in-Some.at f.0 c.as_slice.ensures.value f.1 in
    let there = found_in c.as_slice.result.now c.args.self.now.held c.args.number c.in-Some.at f.0 (c.as_slice.ensures.value ∙ held) f.1 in
    let same = taken_out c.self.inside.held.items c.args.self.now.held c.args.number c.in-Some.at f.0 c.remove-thread.result held there c.remove-thread.ensures.value in
    let stood = held_place k.0 k.1 c.args.self.now c.args.number c.in-Some.at f.0 c.remove-thread.result k.2 there same ∙ ap (λ (x : StationEnd _ _ _ _). place.Held x.number) (sym c.self.view_is) in
    inl (starts_is c.args.number c.in-Some.at _ c.args.self.now f.0 c.remove-thread.result c.start.new.self c.remove-thread.new.self.items c.push_reserved.new.self.items _ c.self.view_is here same c.remove-thread.ensures.items (c.start.ensures.started c.self.inside.number stood) c.push_reserved.ensures.items c.push_reserved.ensures.capacity)
