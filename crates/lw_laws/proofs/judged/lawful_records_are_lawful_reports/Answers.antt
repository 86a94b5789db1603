use Rattle.std.proofs.Common.{refl}
use Rattle.lw_laws.proofs.judged.lawful_records_are_lawful_reports.Goals as goal

pub returns : goal.returns
returns c = λ r fits lawful few. record { few = few; the = r; fits = fits; text = refl; lawful = lawful }
