use Rattle.std.proofs.Common.{◌≡◌, ◌+◌}
use Rattle.lw_world.specs.declared.world_state.Stage.TheVariants.{Open}
use Rattle.lw_world.specs.Register.{tabulate}
use Rattle.lw_world.proofs.world.making.first_stages.Given as goal

abbrev pub invariant-loop : goal.invariant-loop
invariant-loop l = l.register ≡ record { states = tabulate l.counter (λ d. Open); keys = l.threads + 1 }
