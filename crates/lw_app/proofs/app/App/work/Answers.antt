use Rattle.std.proofs.Common.{length, arith, ap}
use Rattle.lw_app.proofs.Seats.{app_begun, app_tried_to}
use Rattle.lw_app.proofs.app.App.work.Goals as goal

pub call_back-requires : goal.call_back-requires
call_back-requires c =
    let may = c.requires.may in
    (may.run, app_begun may.run _ c.args.self.now c.begin.new.self may.app c.requires.due c.in_ok-begin.ensures)

pub end_where_done-requires-clause-threads : goal.end_where_done-requires-clause-threads
end_where_done-requires-clause-threads c =
    let may = c.requires.may in
    let begun = app_begun may.run _ c.args.self.now c.begin.new.self may.app c.requires.due c.in_ok-begin.ensures in
    let called = app_tried_to may.run _ _ _ c.begin.new.self c.call_back.new.self begun (omega (arith, begun.images)) c.in_ok-call_back.ensures in
    omega (arith, called.images, may.threads, ap (λ s. length s.clients) called.script)
