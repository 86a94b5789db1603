use Rattle.std.proofs.Common.{◌≡◌, ◌+◌, ◌%◌}
use Rattle.lw_world.specs.declared.world_state.Standing.TheVariants.{List}
use Rattle.lw_world.specs.Register.{tabulate}
use Rattle.lw_world.proofs.world.making.first_standing.Given as goal

abbrev pub invariant-loop-thread : goal.invariant-loop-thread
invariant-loop-thread l = l.register ≡ record { states = tabulate l.thread (λ t. List (t % l.reactors)); keys = l.reactors + 1 }
