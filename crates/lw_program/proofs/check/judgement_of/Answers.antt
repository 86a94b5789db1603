use Rattle.lw_judge.specs.Reports.{IsLawfulReport}
use Rattle.lw_program.proofs.check.judgement_of.Goals as goal

pub returns-in-Ok-clause-told : goal.returns-in-Ok-clause-told
returns-in-Ok-clause-told c =
    let is : IsLawfulReport c.args.bytes.now = c.in-Ok-Lawful.ensures.lawful.0 c.in-Ok-Lawful.field-0-is in
    (is, c.in-Ok.ensures)
