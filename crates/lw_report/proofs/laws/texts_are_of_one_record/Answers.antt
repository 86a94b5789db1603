use Rattle.lw_report.proofs.TextsBack.{one_record}
use Rattle.lw_report.proofs.laws.texts_are_of_one_record.Goals as goal

pub returns : goal.returns
returns c = one_record
