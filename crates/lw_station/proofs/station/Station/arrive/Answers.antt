use Rattle.lw_place.specs.declared.place.Place.TheVariants as place
use Rattle.lw_station.proofs.Going.{still_above}
use Rattle.lw_station.proofs.station.Station.arrive.Goals as goal

pub add_hop-noted-requires-after_bounds : goal.add_hop-noted-requires-after_bounds
add_hop-noted-requires-after_bounds g c κs within =
    let a = c.requires.arrives in
    let number = c.args.self.now.number in
    still_above c.args.round (place.List number) c.args.thread c.arrive.new.self (c.arrive.ensures.arrived number a.on_its_way) a.above
