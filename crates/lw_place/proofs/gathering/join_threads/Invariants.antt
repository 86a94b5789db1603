use Rattle.std.proofs.Common.{◌≡◌, ◌++◌, map, All}
use Rattle.std.specs.Vec.Iter.{into_iter_items}
use Rattle.lw_place.specs.PlaceSeats.{ThreadEnd, places_of, stand}
use Rattle.lw_place.proofs.gathering.join_threads.Given as goal

-- what it stands for, and what is left, is what it stands for in the end
abbrev pub invariant-loop-thread : goal.invariant-loop-thread
invariant-loop-thread l =
    let first = l.initial.whole in
    let rest = into_iter_items l.thread-iterator in
    record {
      places : places_of l.whole.table l.whole.view ≡ places_of first.table first.view;
      desks : l.whole.view.desks ≡ first.view.desks;
      retired : l.whole.view.retired ≡ first.view.retired;
      halted : l.whole.view.halted ≡ first.view.halted;
      seen : l.whole.view.done_seen ≡ first.view.done_seen;
      halt_seen : l.whole.view.halt_seen ≡ first.view.halt_seen;
      stands : l.whole.view.stands ++ map stand rest ≡ first.view.stands ++ map stand (into_iter_items l.initial.thread-iterator);
      of : All (λ (t : ThreadEnd). t.places ≡ places_of first.table first.view) rest;
    }
