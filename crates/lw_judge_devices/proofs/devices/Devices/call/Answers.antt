use Rattle.std.proofs.Common.{refl, ◌≡◌, slice_get, Some, arith}
use Rattle.std.specs.Vec.{with_item}
use Rattle.std.proofs.lemmas.Option.{slice_get_past, gets}
use Rattle.std.proofs.lemmas.Grind.{common_steps}
use Rattle.lw_judge_devices.proofs.DevicesSteps.{calls_one, calls_none}
use Rattle.lw_judge_devices.proofs.devices.Devices.call.Goals as goal

pub returns-in-Some : goal.returns-in-Some
returns-in-Some c =
    let old = c.args.self.now in
    let d = c.args.device in
    let stood : slice_get old.devices.items d ≡ Some c.in-Some.told.now = grind (arith, common_steps, gets) in
    calls_one d c.args.thread c.args.before c.args.held old (record { devices = with_item old.devices d c.call.new.self }) c.in-Some.told.now c.call.new.self stood c.call.ensures refl

pub returns-in_default : goal.returns-in_default
returns-in_default c =
    let old = c.args.self.now in
    calls_none c.args.device c.args.thread c.args.before c.args.held old (slice_get_past old.devices.items c.args.device (omega (arith, c.in_default.ensures.item)))
