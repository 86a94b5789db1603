use Rattle.std.proofs.Common.{◌≡◌, ◌<◌, ℕ, drop, length}
use Rattle.std.specs.Prelude.{slice_index_or}
use Rattle.lw_place.specs.declared.place.Place.{Place}
use Rattle.lw_place.specs.PlaceTable.{new_view, stands_from}
use Rattle.lw_place.specs.PlaceSeats.{ThreadEnd}
use Rattle.lw_place.proofs.making.places_from.Given as goal

abbrev pub invariant-loop-thread : goal.invariant-loop-thread
invariant-loop-thread l = record {
  rest : l.all.view ≡ new_view (length l.homes.of.items) l.homes.reactors (stands_from l.thread (drop l.thread l.homes.of.items)) l.homes.reactors;
  table : l.all.table ≡ l.initial.all.table;
  count : length l.threads.items ≡ l.thread;
  dealt : (k : ℕ) (d : ThreadEnd) (p : Place) → k < l.thread → slice_index_or l.threads.items k d ≡ record {
    places = record { table = l.initial.all.table; threads = length l.homes.of.items; reactors = l.homes.reactors };
    thread = k;
    place = slice_index_or l.homes.of.items k p;
  };
}
