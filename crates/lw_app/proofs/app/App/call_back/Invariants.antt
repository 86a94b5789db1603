use Rattle.lw_app.specs.Ticking.{TriesTo}
use Rattle.lw_app.proofs.app.App.call_back.Given as goal

abbrev pub invariant-loop-device : goal.invariant-loop-device
invariant-loop-device l = TriesTo l.at l.device l.fn.self l.self
