use Rattle.lw_target.proofs.RunLawful.{all_lawful, record_of}
use Rattle.lw_target.proofs.run.run_script.Goals as goal

pub returns-clause-lawful : goal.returns-clause-lawful
returns-clause-lawful g c =
    all_lawful c.args.script c.run_whole.result c.requires.accepted c.requires.served
    (record_of c.args.script c.run_whole.result c.args.options c.requires.options c.run_whole.ensures.script c.run_whole.ensures.reactors c.run_whole.ensures.home c.run_whole.ensures.no_rounds c.run_whole.ensures.whole)
