use Rattle.lw_program.specs.Outside.{seen}
use Rattle.lw_laws.proofs.RunReports.{no_bad_front}
use Rattle.lw_laws.proofs.written.bad_lines_are_not_written.Goals as goal

pub returns : goal.returns
returns g c = λ words input input_after out out_after told bytes w. no_bad_front words (seen g.I.Source.left g.I.Source.faults g.O.Sink.holds g.O.Sink.faults input input_after out out_after) told bytes w
