use Rattle.std.proofs.Common.{ap, ◌∙◌}
use Rattle.lw_place.specs.PlaceTable.{words_of}
use Rattle.lw_place.proofs.Beginning.{begins}
use Rattle.lw_place.proofs.making.found.Goals as goal

pub of_words-requires : goal.of_words-requires
of_words-requires c = begins c.args.homes.now _ (c.as_slice-2.ensures.value ∙ c.in_ok-words.ensures ∙ ap words_of c.as_slice.ensures.value) c.requires.reactors c.requires.homes
