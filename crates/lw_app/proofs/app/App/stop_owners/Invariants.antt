use Rattle.std.specs.Arc.{arc_value}
use Rattle.lw_model.specs.Threads.{owner_of}
use Rattle.lw_app.specs.Ticking.{StopsTo}
use Rattle.lw_app.proofs.app.App.stop_owners.Given as goal

abbrev pub invariant-loop-image : goal.invariant-loop-image
invariant-loop-image l = StopsTo (owner_of (arc_value l.fn.self.script) 0) l.image l.initial.acts l.acts
