use Rattle.std.proofs.Common.{sym, ◌∙◌}
use Rattle.lw_judge_threads.proofs.HoldingSteps.{step_closes, step_answers, step_off, step_runs}
use Rattle.lw_judge_threads.proofs.holding.Holding.step.Goals as goal

pub returns-in-Closed : goal.returns-in-Closed
returns-in-Closed c = λ past few h. step_closes c.args.script.now c.args.thread past c.in-Did.place c.in-Did.line c.args.step.now c.args.self.now c.close.new.self c.in-Did.is c.in-Closed.is c.close.ensures few h

pub returns-in-Some : goal.returns-in-Some
returns-in-Some c = λ past few h. step_answers c.args.script.now c.args.thread past c.in-Did.place c.in-Some.device c.in-Did.line c.args.step.now c.args.self.now c.answer.new.self
    c.in-Did.is c.in_default.not-Closed (sym c.image_at.ensures ∙ c.in-Some.is) c.answer.ensures few h

pub returns-in_default-image_at : goal.returns-in_default-image_at
returns-in_default-image_at c = λ past few h. step_off c.args.script.now c.args.thread past c.in-Did.place c.in-Did.line c.args.step.now c.args.self.now
    c.in-Did.is c.in_default.not-Closed (sym c.image_at.ensures ∙ c.in_default-image_at.is) h

pub returns-in-PutSelf : goal.returns-in-PutSelf
returns-in-PutSelf c = λ past few h. step_runs c.args.script.now c.args.thread past c.in-Ran.place c.in-PutSelf.device c.in-Ran.tag c.args.step.now c.args.self.now c.run_putself.new.self
    c.in-Ran.is c.in-PutSelf.is c.run_putself.ensures h
