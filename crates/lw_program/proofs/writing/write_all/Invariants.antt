use Rattle.std.proofs.Common.{◌≡◌, length, ◌-◌, ◌≤◌, take}
use Rattle.lw_base.specs.Outside.{HasTaken}
use Rattle.lw_program.proofs.writing.write_all.Given as goal

-- the front of the text was taken
abbrev pub invariant-loop-written : goal.invariant-loop-written
invariant-loop-written g l =
    (l.written ≤ length l.text)
    × HasTaken (g.O.Sink.holds l.fn.out) (take l.written l.text) (g.O.Sink.holds l.out)
    × (g.O.Sink.faults l.out ≡ g.O.Sink.faults l.fn.out)

abbrev pub decreases-loop-written : goal.decreases-loop-written
decreases-loop-written g l = length l.text - l.written
