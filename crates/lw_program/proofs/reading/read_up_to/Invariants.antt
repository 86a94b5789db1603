use Rattle.std.proofs.Common.{vec_len, ◌-◌, ◌≡◌, ◌+◌, ◌<◌, ◌≤◌, false}
use Rattle.lw_base.specs.Outside.{HasGiven}
use Rattle.lw_program.proofs.reading.read_up_to.Given as goal

-- the bytes so far are the front of what the source had left
abbrev pub invariant-loop-bytes : goal.invariant-loop-bytes
invariant-loop-bytes g l =
    (vec_len l.bytes ≤ l.limit + 1)
    × (0 < vec_len l.piece)
    × HasGiven (g.I.Source.left l.fn.input) l.bytes.items (g.I.Source.left l.input)
    × (g.I.Source.faults l.input ≡ g.I.Source.faults l.fn.input)
    × (g.I.Source.ended l.input ≡ false)

abbrev pub decreases-loop-bytes : goal.decreases-loop-bytes
decreases-loop-bytes g l = l.limit + 1 - vec_len l.bytes
