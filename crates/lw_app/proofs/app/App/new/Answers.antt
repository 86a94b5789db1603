use Rattle.std.proofs.Common.{rules, ◌≡◌, length, replicate, true, false, [], refl, ◌∙◌}
use Rattle.std.specs.Arc.{arc_value}
use Rattle.lw_app.specs.declared.app.Stage.TheVariants as stage
use Rattle.lw_app.specs.declared.app.App.{App}
use Rattle.lw_app.proofs.Leaving.{keeps_new}
use Rattle.lw_app.proofs.app.App.new.Goals as goal

pub returns-clause-lawful : goal.returns-clause-lawful
returns-clause-lawful c =
    let b : App = record { alloc = c.args.alloc; script = c.args.script; set = Rattle.lw_channel.specs.contracts.set.ChannelSet.the_view c.set.inside; awaited = c.in_ok-all.field-0; owed = c.in_ok-none.field-0; did = c.from_vec.result; called = c.from_vec-2.result; kept = c.new.result; stage = stage.Waiting } in
    let awaited : b.awaited ≡ replicate (length (arc_value b.script).clients) true = search rules in
    let owed : b.owed ≡ replicate (length (arc_value b.script).images) false = search rules in
    let did : b.did ≡ [] = search rules in
    let called : b.called ≡ [] = search rules in
    λ run k script devices set family number ran threads none. keeps_new run k b script devices (c.set.view_is ∙ set) awaited owed did called refl family number ran threads none
