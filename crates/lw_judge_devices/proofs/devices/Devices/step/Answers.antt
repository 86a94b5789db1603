use Rattle.std.proofs.Common.{sym, ◌∙◌}
use Rattle.lw_judge_devices.proofs.DevicesSteps.{step_answers, step_off, step_calls, step_runs}
use Rattle.lw_judge_devices.proofs.devices.Devices.step.Goals as goal

pub returns-in_ok-answer-in-Did : goal.returns-in_ok-answer-in-Did
returns-in_ok-answer-in-Did c = λ r past same holds told at.
    step_answers r c.args.script.now c.args.thread past c.in-Did.place c.in-Some.device c.in-Did.line c.args.step.now c.is_client-is_client.result c.of-before.result c.args.self.now c.answer.new.self c.args.tells.now c.answer-in-Some.new.self
    same c.in-Did.is c.is_client-is_client.ensures (sym c.image_at.ensures ∙ c.in-Some.is) (c.of-before.ensures c.args.script.now c.args.thread past told) c.in_ok-answer-in-Did.ensures c.answer-in-Some.ensures told at

pub returns-in_default : goal.returns-in_default
returns-in_default c = λ r past same holds told at.
    step_off r c.args.script.now c.args.thread past c.in-Did.place c.in-Did.line c.args.step.now c.args.self.now c.args.tells.now same c.in-Did.is (sym c.image_at.ensures ∙ c.in_default.is) told at

pub returns-in-Called : goal.returns-in-Called
returns-in-Called c = λ r past same holds told at.
    step_calls r c.args.script.now c.args.thread past c.in-Called.place c.in-Called.line c.args.step.now c.of.result c.held.result c.args.self.now c.call.new.self c.args.tells.now
    same c.in-Called.is (c.held.ensures c.args.script.now c.args.thread past holds) (c.of.ensures c.args.script.now c.args.thread past told) c.call.ensures told at

pub returns-in-Ran : goal.returns-in-Ran
returns-in-Ran c = λ r past same holds told at. step_runs r c.args.script.now c.args.thread past c.in-Ran.place c.in-Ran.tag c.args.step.now c.args.self.now c.args.tells.now c.in-Ran.is told at
