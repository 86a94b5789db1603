use Rattle.std.proofs.Common.{◌∙◌, sym}
use Rattle.lw_program.proofs.WordNumbers.{parsed}
use Rattle.lw_program.proofs.settings.number_of.Goals as goal

pub returns-then-is_numeral : goal.returns-then-is_numeral
returns-then-is_numeral c = c.ok.ensures.value ∙ parsed c.args.text.now c.parse.result (sym c.is_numeral.ensures ∙ c.if-is_numeral.true) c.parse.ensures.value.0
