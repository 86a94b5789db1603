use Rattle.std.proofs.Common.{◌≡◌, vec_len}
use Rattle.lightrun.proofs.process.clocks_of.Given as goal

abbrev pub invariant-loop-made : goal.invariant-loop-made
invariant-loop-made g l = vec_len l.clocks ≡ l._made
