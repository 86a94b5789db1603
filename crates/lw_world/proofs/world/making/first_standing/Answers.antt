use Rattle.std.proofs.Common.{arith, ap, length, ◌∙◌, ◌%◌}
use Rattle.lw_world.specs.declared.world_state.Standing.{Standing}
use Rattle.lw_world.specs.declared.world_state.Standing.TheVariants.{List}
use Rattle.lw_world.specs.Register.{Registered}
use Rattle.lw_world.proofs.Registers.{length-tabulate}
use Rattle.lw_world.proofs.world.making.first_standing.Goals as goal

pub push-requires-clause-few : goal.push-requires-clause-few
push-requires-clause-few c =
    let size = ap (λ (r : Registered Standing). length r.states) c.loop-thread.invariant ∙ length-tabulate c.loop-thread.thread (λ t. List (t % c.args.reactors)) in
    omega (arith, size, c.requires.threads, c.loop-thread-test.true)
