use Rattle.std.proofs.Common.{sym, ap, ◌≡◌, ◌∙◌, ◌+◌, Some, true, false, slice_get, arith}
use Rattle.std.proofs.lemmas.Option.{gets, slice_get_within}
use Rattle.std.proofs.lemmas.Grind.{common_steps}
use Rattle.lw_model.specs.Devices.{device_at}
use Rattle.lw_judge_devices.specs.DeviceTold.{device_holds}
use Rattle.lw_judge_devices.proofs.DevicesLines.{none_fails, first_fails, holds_more}
use Rattle.lw_judge_devices.proofs.devices.Devices.rule.Goals as goal

pub returns-then-not-branch : goal.returns-then-not-branch
returns-then-not-branch c = λ at line few.
    let i = c.loop-device.device in
    let told = c.told-item.result in
    let stands : slice_get c.args.self.now.devices.items i ≡ Some told = grind (arith, common_steps, gets) in
    let fails : device_holds told (device_at c.args.of.now i) ≡ false = ap (device_holds told) (sym c.end_of.ensures) ∙ sym c.in_ok-holds.ensures ∙ c.if-not-branch.true in
    let here : c.saturating_add.result ≡ c.args.first_line + i = omega (arith, slice_get_within c.args.self.now.devices.items i told stands, at.count) in
    ap Some (here ∙ ap (λ l. l + i) line) ∙ sym (first_fails c.args.of.now c.args.self.now i told at stands fails (λ k e less is. c.loop-device.invariant k e less is))

pub loop-device-preserved : goal.loop-device-preserved
loop-device-preserved c =
    let i = c.loop-device.device in
    let told = c.told-item.result in
    let stands : slice_get c.args.self.now.devices.items i ≡ Some told = grind (arith, common_steps, gets) in
    let holds : device_holds told (device_at c.args.of.now i) ≡ true = ap (device_holds told) (sym c.end_of.ensures) ∙ sym c.in_ok-holds.ensures ∙ c.if-not-branch.false in
    holds_more c.args.of.now c.args.self.now.devices.items i told stands holds c.loop-device.invariant

pub returns : goal.returns
returns c = λ at line few. sym (none_fails c.args.of.now c.args.self.now at (λ d e is. c.loop-device.invariant d e (omega (arith, slice_get_within c.args.self.now.devices.items d e is)) is))
