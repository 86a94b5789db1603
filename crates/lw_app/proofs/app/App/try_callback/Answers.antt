use Rattle.std.proofs.Common.{sym}
use Rattle.lw_app.proofs.Seats.{not_due}
use Rattle.lw_app.proofs.app.App.try_callback.Goals as goal

pub returns-in-NotYet : goal.returns-in-NotYet
returns-in-NotYet c =
    let q = c.callback_due.ensures.not_yet c.in-NotYet.seen c.in-NotYet.is in
    not_due c.args.at c.args.device c.in-NotYet.seen c.args.self.now c.callback_due.new.self (sym c.if-not-has.ensures) q.0 q.1
