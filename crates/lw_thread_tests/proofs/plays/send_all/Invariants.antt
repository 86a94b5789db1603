use Rattle.lw_thread.specs.Calls.{Adds}
use Rattle.lw_thread_tests.proofs.plays.send_all.Given as goal

abbrev pub invariant-loop-to : goal.invariant-loop-to
invariant-loop-to l = Adds l.initial.acts l.acts
