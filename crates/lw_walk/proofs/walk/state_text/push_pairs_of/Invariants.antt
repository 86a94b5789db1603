use Rattle.std.proofs.Common.{◌≡◌, ◌++◌, string_bytes}
use Rattle.lw_world.specs.Sums.{at, texts_below}
use Rattle.lw_walk.specs.Walk.{pair_line}
use Rattle.lw_walk.proofs.walk.state_text.push_pairs_of.Given as goal

-- the lines so far stand behind what there was
abbrev pub invariant-loop-receiver : goal.invariant-loop-receiver
invariant-loop-receiver l = string_bytes l.out ≡ string_bytes l.initial.out ++ texts_below l.receiver (λ r. pair_line l.sender r (at l.world.sent l.sender r) (at l.world.run l.sender r))
