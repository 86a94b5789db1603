use Rattle.lw_target.specs.Turns.{Turned}
use Rattle.lw_target.proofs.turns.Target.run_app.Given as goal

abbrev pub invariant-loop : goal.invariant-loop
invariant-loop l = Turned l.fn.self l.self 1
