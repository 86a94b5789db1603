use Rattle.std.proofs.Common.{◌-◌, ◌∙◌, arith, length, drop}
use Rattle.std.proofs.lemmas.List.{length-drop, length-take}
use Rattle.lw_program.proofs.Streams.{taken-next}
use Rattle.lw_program.proofs.writing.write_all.Goals as goal

pub loop-written-preserved : goal.loop-written-preserved
loop-written-preserved g c =
    let inv = c.loop-written.invariant in
    let told = c.in_ok-written.ensures in
    let sound = told.sound in
    let text = c.args.text.now in
    let k = c.loop-written.written in
    let n = c.in_ok-written.field-0 in (
      omega (arith, inv.0, told.count.1, length-take (length text - k) (drop k text), length-drop k text),
      taken-next _ _ _ text k n inv.1 told.appended,
      sound ∙ inv.2,
    )
