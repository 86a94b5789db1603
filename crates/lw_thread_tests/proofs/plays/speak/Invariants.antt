use Rattle.lw_thread.specs.Calls.{Adds}
use Rattle.lw_thread_tests.proofs.plays.speak.Given as goal

abbrev pub invariant-loop-value : goal.invariant-loop-value
invariant-loop-value l = Adds l.initial.acts l.acts
