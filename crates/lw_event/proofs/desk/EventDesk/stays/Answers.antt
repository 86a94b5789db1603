use Rattle.lw_event.proofs.Staying.{still_of}
use Rattle.lw_event.proofs.desk.EventDesk.stays.Goals as goal

pub returns : goal.returns
returns g c = λ run rings k old h s. still_of run rings k old _ h s
