use Rattle.lw_script.proofs.Accepted.{keeps_rules}
use Rattle.lw_report_tests.proofs.runs.run.Goals as goal

pub run_script-requires-clause-accepted : goal.run_script-requires-clause-accepted
run_script-requires-clause-accepted g c = keeps_rules c.args.bytes.now c.in_ok-script.script c.in_ok-script.ensures.accepted c.in_ok-script.ensures.script
