use Rattle.lw_thread.specs.Calls.{Adds}
use Rattle.thread_bench.proofs.volley.send_many.Given as goal

abbrev pub invariant-loop : goal.invariant-loop
invariant-loop l = Adds l.initial.acts l.acts
