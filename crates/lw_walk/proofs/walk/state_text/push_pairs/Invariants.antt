use Rattle.std.proofs.Common.{◌≡◌, ◌++◌, string_bytes}
use Rattle.lw_world.specs.Sums.{texts_below}
use Rattle.lw_walk.specs.Walk.{pairs_of}
use Rattle.lw_walk.proofs.walk.state_text.push_pairs.Given as goal

-- the lines so far stand behind what there was
abbrev pub invariant-loop-sender : goal.invariant-loop-sender
invariant-loop-sender l = string_bytes l.out ≡ string_bytes l.initial.out ++ texts_below l.sender (pairs_of l.world)
