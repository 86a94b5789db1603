use Rattle.std.proofs.Common.{◌∙◌, sym, string_bytes}
use Rattle.std.proofs.lemmas.List.Folds.{list_all-map}
use Rattle.lw_program.specs.Parsed.{is_unmarked}
use Rattle.lw_program.proofs.asked.are_unmarked.Goals as goal

pub returns : goal.returns
returns c = c.each_is_unmarked.ensures ∙ sym (list_all-map is_unmarked (λ w. string_bytes w) c.args.words.now)
