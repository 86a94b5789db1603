use Rattle.lw_program.specs.Outside.{seen}
use Rattle.lw_laws.proofs.RunReports.{lawful_written}
use Rattle.lw_laws.proofs.written.written_reports_are_lawful.Goals as goal

pub returns : goal.returns
returns g c = λ words input input_after out out_after told bytes w. lawful_written words (seen g.I.Source.left g.I.Source.faults g.O.Sink.holds g.O.Sink.faults input input_after out out_after) told bytes w
