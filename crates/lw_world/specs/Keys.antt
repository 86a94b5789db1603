-- By which key a thread or a device is counted.
use Rattle.std.specs.Prelude.{ℕ, ◌+◌}
use Rattle.lw_world.specs.declared.world_state.Standing.{Standing}
use Rattle.lw_world.specs.declared.world_state.Standing.TheVariants.{List, Event, Ended}
use Rattle.lw_world.specs.declared.world_state.Stage.{Stage}
use Rattle.lw_world.specs.declared.world_state.Stage.TheVariants.{Open, Shut, Fired}

abbrev pub list_key : Standing → ℕ
list_key (List c) = c + 1
list_key (Event c) = 0
list_key Ended = 0

abbrev pub shut_key : Stage → ℕ
shut_key Open = 0
shut_key (Shut t) = t + 1
shut_key Fired = 0
