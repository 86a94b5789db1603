use Rattle.lw_thread.specs.Calls.{Adds}
use Rattle.lw_thread_tests.proofs.plays.start_all.Given as goal

abbrev pub invariant-loop-thread : goal.invariant-loop-thread
invariant-loop-thread l = Adds l.initial.acts l.acts
