use Rattle.std.proofs.Common.{refl, ◌≡◌, slice_get, Some, arith}
use Rattle.std.specs.Vec.{with_item}
use Rattle.std.proofs.lemmas.Option.{slice_get_past, gets}
use Rattle.std.proofs.lemmas.Grind.{common_steps}
use Rattle.lw_judge_devices.proofs.DevicesSteps.{answers_one, answers_none}
use Rattle.lw_judge_devices.proofs.devices.Devices.answer.Goals as goal

pub returns-in_ok-answer : goal.returns-in_ok-answer
returns-in_ok-answer c =
    let old = c.args.self.now in
    let d = c.args.device in
    let stood : slice_get old.devices.items d ≡ Some c.in-Some.told.now = grind (arith, common_steps, gets) in
    answers_one d c.args.thread c.args.is_client c.args.before c.args.answer old (record { devices = with_item old.devices d c.answer.new.self }) c.in-Some.told.now c.answer.new.self stood c.in_ok-answer.ensures refl

pub returns-in_default : goal.returns-in_default
returns-in_default c =
    let old = c.args.self.now in
    answers_none c.args.device c.args.thread c.args.is_client c.args.before c.args.answer old (slice_get_past old.devices.items c.args.device (omega (arith, c.in_default.ensures.item)))
