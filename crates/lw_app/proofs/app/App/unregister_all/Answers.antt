use Rattle.std.proofs.Common.{arith}
use Rattle.lw_app.proofs.Seats.{app_unregistered_to, may_unregister}
use Rattle.lw_app.proofs.app.App.unregister_all.Goals as goal

pub unregister-requires-clause-device : goal.unregister-requires-clause-device
unregister-requires-clause-device c =
    let l = c.loop-device in
    (may_unregister c.requires.0 l.device l.self (app_unregistered_to c.requires.0 c.args.at l.device c.args.self.now l.self c.requires.1 (omega (arith, c.requires.1.images)) l.invariant) (omega (arith, c.requires.1.images))).0

pub unregister-requires-clause-flag : goal.unregister-requires-clause-flag
unregister-requires-clause-flag c =
    let l = c.loop-device in
    (may_unregister c.requires.0 l.device l.self (app_unregistered_to c.requires.0 c.args.at l.device c.args.self.now l.self c.requires.1 (omega (arith, c.requires.1.images)) l.invariant) (omega (arith, c.requires.1.images))).1

pub unregister-requires-clause-unowed : goal.unregister-requires-clause-unowed
unregister-requires-clause-unowed c =
    let l = c.loop-device in
    (may_unregister c.requires.0 l.device l.self (app_unregistered_to c.requires.0 c.args.at l.device c.args.self.now l.self c.requires.1 (omega (arith, c.requires.1.images)) l.invariant) (omega (arith, c.requires.1.images))).2
