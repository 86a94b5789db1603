use Rattle.std.proofs.Common.{◌≡◌, vec_len}
use Rattle.lw_program_tests.proofs.calls.clocks.Given as goal

abbrev pub invariant-loop-made : goal.invariant-loop-made
invariant-loop-made l = vec_len l.clocks ≡ l._made
