use Rattle.std.proofs.Common.{◌≡◌, take, map}
use Rattle.lw_place.specs.PlaceWord.{start_place}
use Rattle.lw_place.proofs.making.begun.Given as goal

abbrev pub invariant-loop-start : goal.invariant-loop-start
invariant-loop-start l = l.places.items ≡ map start_place (take l.start-index l.starts)
