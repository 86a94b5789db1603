use Rattle.std.proofs.Common.{reverse, sym}
use Rattle.lw_judge_devices.specs.Answered.{asked_ops}
use Rattle.lw_judge_devices.proofs.Behind.{behind_request, behind_none}
use Rattle.lw_judge_devices.proofs.journal.Journal.answer.Goals as goal

pub returns-in_ok-step-clause-behind : goal.returns-in_ok-step-clause-behind
returns-in_ok-step-clause-behind c = λ asked was behind.
    let s = c.args.self.now.script.now in
    let past = reverse (asked_ops s asked) in
    behind_request s c.args.self.now.device c.args.client c.args.op c.in-Some.request.now asked was c.args.owed.now c.note.new.owed c.args.image.now c.step.new.self
    behind (sym c.in-Some.ensures) c.requires.image.block (c.note.ensures.places behind.places) (c.in_ok-note.ensures.replies past behind.after behind.places) (c.in_ok-step.ensures.after past behind.after)

pub returns-in_default-clause-behind : goal.returns-in_default-clause-behind
returns-in_default-clause-behind c = λ asked was behind.
    behind_none c.args.self.now.script.now c.args.self.now.device c.args.client c.args.op asked was c.args.owed.now c.args.image.now behind (sym c.in_default.ensures)
