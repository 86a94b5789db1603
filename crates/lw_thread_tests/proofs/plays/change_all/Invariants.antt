use Rattle.lw_thread.specs.Calls.{Adds}
use Rattle.lw_thread_tests.proofs.plays.change_all.Given as goal

abbrev pub invariant-loop-made : goal.invariant-loop-made
invariant-loop-made l = Adds l.initial.acts l.acts
