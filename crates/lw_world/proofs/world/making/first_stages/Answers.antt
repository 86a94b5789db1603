use Rattle.std.proofs.Common.{arith, ap, length, ◌∙◌}
use Rattle.lw_world.specs.declared.world_state.Stage.{Stage}
use Rattle.lw_world.specs.declared.world_state.Stage.TheVariants.{Open}
use Rattle.lw_world.specs.Register.{Registered}
use Rattle.lw_world.proofs.Registers.{length-tabulate}
use Rattle.lw_world.proofs.world.making.first_stages.Goals as goal

pub push-requires-clause-few : goal.push-requires-clause-few
push-requires-clause-few c =
    let size = ap (λ (r : Registered Stage). length r.states) c.loop.invariant ∙ length-tabulate c.loop.counter (λ d. Open) in
    omega (arith, size, c.requires, c.loop-test.true)
