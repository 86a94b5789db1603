use Rattle.std.proofs.Common.{arith}
use Rattle.lw_app.proofs.Seats.{as_many_seats, app_tried_to, may_try}
use Rattle.lw_app.proofs.app.App.call_back.Goals as goal

pub try_callback-requires-clause-device : goal.try_callback-requires-clause-device
try_callback-requires-clause-device c =
    let l = c.loop-device in
    let r = c.requires.0 in
    omega (arith, c.requires.1.images, as_many_seats r _ l.self (app_tried_to r _ c.args.at l.device c.args.self.now l.self c.requires.1 (omega (arith, c.requires.1.images)) l.invariant))

pub try_callback-requires-clause-began : goal.try_callback-requires-clause-began
try_callback-requires-clause-began c =
    let l = c.loop-device in
    let r = c.requires.0 in
    may_try r _ l.device l.self (app_tried_to r _ c.args.at l.device c.args.self.now l.self c.requires.1 (omega (arith, c.requires.1.images)) l.invariant) (omega (arith, c.requires.1.images))
