use Rattle.lw_script.proofs.Accepted.{keeps_rules}
use Rattle.lw_program.proofs.run.record_of.Goals as goal

pub run_script-requires-clause-accepted : goal.run_script-requires-clause-accepted
run_script-requires-clause-accepted g c = keeps_rules c.args.bytes.now c.in-Ok.script c.in-Ok.ensures.accepted c.in-Ok.ensures.script
