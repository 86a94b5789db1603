use Rattle.lw_model.proofs.JournalParts.{journal_part}
use Rattle.lw_model.proofs.laws.journals_are_of_clients.Goals as goal

pub returns : goal.returns
returns c = λ r lawful. journal_part r lawful.ran_is_sent
