use Rattle.lw_report.proofs.TextsBack.{text_read}
use Rattle.lw_report.proofs.laws.texts_are_read.Goals as goal

pub returns : goal.returns
returns c = text_read
