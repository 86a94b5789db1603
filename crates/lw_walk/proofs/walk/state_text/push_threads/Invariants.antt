use Rattle.std.proofs.Common.{◌≡◌, ◌++◌, string_bytes}
use Rattle.lw_world.specs.Sums.{texts_below}
use Rattle.lw_world.specs.World.{standing_of}
use Rattle.lw_walk.specs.Walk.{thread_line}
use Rattle.lw_walk.proofs.walk.state_text.push_threads.Given as goal

-- the lines so far stand behind what there was
abbrev pub invariant-loop-thread : goal.invariant-loop-thread
invariant-loop-thread l = string_bytes l.out ≡ string_bytes l.initial.out ++ texts_below l.thread (λ t. thread_line t (standing_of l.world t))
