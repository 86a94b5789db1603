use Rattle.std.proofs.Common.{◌≡◌, ◌++◌, string_bytes}
use Rattle.lw_world.specs.Sums.{texts_below}
use Rattle.lw_world.specs.World.{sleeps}
use Rattle.lw_walk.specs.Walk.{reactor_line}
use Rattle.lw_walk.proofs.walk.state_text.push_reactors.Given as goal

-- the lines so far stand behind what there was
abbrev pub invariant-loop-reactor : goal.invariant-loop-reactor
invariant-loop-reactor l = string_bytes l.out ≡ string_bytes l.initial.out ++ texts_below l.reactor (λ c. reactor_line c (sleeps l.world c))
