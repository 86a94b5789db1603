use Rattle.std.proofs.Common.{◌≡◌, ◌<◌, ℕ, length}
use Rattle.std.specs.Prelude.{slice_index_or}
use Rattle.lw_place.specs.PlaceTable.{StandsAt}
use Rattle.lw_place.specs.declared.place.Place.{Place}
use Rattle.lw_place.proofs.gathering.all_places.Given as goal

abbrev pub invariant-loop-thread : goal.invariant-loop-thread
invariant-loop-thread l = record {
  same : l.whole ≡ l.initial.whole;
  count : length l.places.items ≡ l.thread;
  each : (t : ℕ) (d : Place) → t < l.thread → StandsAt l.whole.view.stands t (slice_index_or l.places.items t d);
}
