use Rattle.std.proofs.Common.{refl, ◌≡◌, slice_get, Some, arith}
use Rattle.std.specs.Vec.{with_item}
use Rattle.std.proofs.lemmas.Option.{slice_get_past, gets}
use Rattle.std.proofs.lemmas.Grind.{common_steps}
use Rattle.lw_judge_devices.proofs.DevicesSteps.{tells_one, tells_none}
use Rattle.lw_judge_devices.proofs.devices.Tells.answer.Goals as goal

pub returns-in-Some : goal.returns-in-Some
returns-in-Some c =
    let old = c.args.self.now in
    let d = c.args.device in
    let stood : slice_get old.devices.items d ≡ Some c.in-Some.tell.now = grind (arith, common_steps, gets) in
    tells_one d c.args.answer old (record { devices = with_item old.devices d c.answer.new.self }) c.in-Some.tell.now c.answer.new.self stood c.answer.ensures refl

pub returns-in_default : goal.returns-in_default
returns-in_default c =
    let old = c.args.self.now in
    tells_none c.args.device c.args.answer old (slice_get_past old.devices.items c.args.device (omega (arith, c.in_default.ensures.item)))
