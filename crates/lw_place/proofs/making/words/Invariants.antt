use Rattle.std.proofs.Common.{◌≡◌, take}
use Rattle.lw_place.specs.PlaceTable.{words_of}
use Rattle.lw_place.proofs.making.words.Given as goal

abbrev pub invariant-loop-home : goal.invariant-loop-home
invariant-loop-home l = l.words.items ≡ words_of (take l.home-index l.homes)
