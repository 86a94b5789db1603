use Rattle.lw_app.specs.Ticking.{UnregistersTo}
use Rattle.lw_app.proofs.app.App.unregister_all.Given as goal

abbrev pub invariant-loop-device : goal.invariant-loop-device
invariant-loop-device l = UnregistersTo l.at l.device l.fn.self l.self
