use Rattle.std.proofs.Common.{arith}
use Rattle.lw_model.specs.Threads.{owner_of}
use Rattle.std.specs.Arc.{arc_value}
use Rattle.lw_app.proofs.Stopping.{stops_to}
use Rattle.lw_app.proofs.app.App.stop_owners.Goals as goal

pub send-requires : goal.send-requires
send-requires c =
    let l = c.loop-image in
    omega (arith, (stops_to (owner_of (arc_value c.args.self.now.script) 0) l.image c.args.acts.now l.acts l.invariant).threads, c.requires)
