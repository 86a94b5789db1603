use Rattle.std.proofs.Common.{◌≡◌, ◌+◌, max, [], length, All}
use Rattle.std.specs.Vec.Iter.{into_iter_items}
use Rattle.lw_place.specs.PlaceSeats.{DeskEnd, places_of, all_retired, all_halted, most_seen, most_halt_seen}
use Rattle.lw_place.proofs.gathering.join_desks.Given as goal

-- what it stands for, and what is left, is what it stands for in the end
abbrev pub invariant-loop-desk : goal.invariant-loop-desk
invariant-loop-desk l =
    let first = l.initial.whole in
    let all = into_iter_items l.initial.desk-iterator in
    let rest = into_iter_items l.desk-iterator in
    record {
      places : places_of l.whole.table l.whole.view ≡ places_of first.table first.view;
      desks : l.whole.view.desks + length rest ≡ first.view.desks + length all;
      retired : l.whole.view.retired + all_retired rest ≡ first.view.retired + all_retired all;
      halted : l.whole.view.halted + all_halted rest ≡ first.view.halted + all_halted all;
      seen : max l.whole.view.done_seen (most_seen rest) ≡ max first.view.done_seen (most_seen all);
      halt_seen : max l.whole.view.halt_seen (most_halt_seen rest) ≡ max first.view.halt_seen (most_halt_seen all);
      stands : l.whole.view.stands ≡ [];
      of : All (λ (d : DeskEnd). d.places ≡ places_of first.table first.view) rest;
    }
