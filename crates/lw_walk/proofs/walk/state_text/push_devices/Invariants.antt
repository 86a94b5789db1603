use Rattle.std.proofs.Common.{◌≡◌, ◌++◌, string_bytes}
use Rattle.lw_world.specs.Sums.{texts_below}
use Rattle.lw_world.specs.World.{stage_of}
use Rattle.lw_walk.specs.Walk.{device_line, owners}
use Rattle.lw_walk.proofs.walk.state_text.push_devices.Given as goal

-- the lines so far stand behind what there was
abbrev pub invariant-loop-device : goal.invariant-loop-device
invariant-loop-device l = string_bytes l.out ≡ string_bytes l.initial.out ++ texts_below l.device (λ d. device_line d (stage_of l.world d) (owners l.world d))
