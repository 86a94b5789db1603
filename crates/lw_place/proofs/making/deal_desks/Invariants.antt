use Rattle.std.proofs.Common.{◌≡◌, ◌-◌, replicate}
use Rattle.lw_place.specs.PlaceSeats.{new_desk, places_of}
use Rattle.lw_place.proofs.making.deal_desks.Given as goal

abbrev pub invariant-loop : goal.invariant-loop
invariant-loop l = record {
  rest : l.all.view ≡ record l.initial.all.view { desks = l.reactors - l.counter };
  table : l.all.table ≡ l.initial.all.table;
  dealt : l.desks.items ≡ replicate l.counter (new_desk (places_of l.initial.all.table l.initial.all.view));
}
