use Rattle.std.proofs.Common.{ap, ◌∙◌}
use Rattle.lw_place.specs.declared.place.Place.TheVariants as place
use Rattle.lw_thread.specs.Threads.{Thread}
use Rattle.lw_station.specs.Handling.{at_place}
use Rattle.lw_station.proofs.Going.{above_same, back_is, back_leaves, back_range, comes_home, departs_is, departs_not_is, leaver_fits, one_there}
use Rattle.lw_station.proofs.station.Station.depart.Goals as goal

pub post-requires-clause-fits : goal.post-requires-clause-fits
post-requires-clause-fits g c κs within =
    let f = c.requires.there in
    let k = c.requires.station in
    leaver_fits k.0 k.1 c.args.round f.0 c.args.at c.args.to _ c.args.self.now f.1 c.leaving-event.result (c.self.view_is ∙ c.leaving-event.ensures.left) k.2 k.3 f.2 f.3 (c.leaving-event.ensures.event f.0 f.1 f.2)

pub thread_of-back-requires-after_bounds : goal.thread_of-back-requires-after_bounds
thread_of-back-requires-after_bounds g c κs within =
    let f = c.requires.there in
    (at_place (place.Event c.args.to) f.1, comes_home c.args.round c.args.to f.1 c.leaving-event.result c.self.inside.events c.in-Err.refusal (c.leaving-event.ensures.event f.0 f.1 f.2) c.in-Err.ensures.refused.0)

pub leave_for-requires-clause-place : goal.leave_for-requires-clause-place
leave_for-requires-clause-place g c κs within =
    let f = c.requires.there in
    back_leaves c.args.to f.1 c.thread_of-back.result (back_is c.args.round c.args.to f.1 c.thread_of-back.result c.leaving-event.result c.self.inside.events c.in-Err.refusal (c.leaving-event.ensures.event f.0 f.1 f.2) c.in-Err.ensures.refused.0 c.thread_of-back.ensures)

pub leave_for-requires-clause-range : goal.leave_for-requires-clause-range
leave_for-requires-clause-range g c κs within =
    let f = c.requires.there in
    let k = c.requires.station in
    back_range k.0 k.1 f.0 c.args.at c.args.to _ c.args.self.now f.1 c.thread_of-back.result (c.self.view_is ∙ c.leaving-event.ensures.left) k.2 f.2 (back_is c.args.round c.args.to f.1 c.thread_of-back.result c.leaving-event.result c.self.inside.events c.in-Err.refusal (c.leaving-event.ensures.event f.0 f.1 f.2) c.in-Err.ensures.refused.0 c.thread_of-back.ensures)

pub arrive-requires-after_bounds : goal.arrive-requires-after_bounds
arrive-requires-after_bounds g c κs within = (c.self.inside.number, ap (λ (t : Thread _ _ _ _). t.seat.place) c.leave_for.ensures.left)

pub returns-in-Ok-clause-left : goal.returns-in-Ok-clause-left
returns-in-Ok-clause-left g c = λ number thread i.
    let f = c.requires.there in
    let above = above_same c.args.round f.1 thread (one_there c.args.self.now.list f.0 number c.args.at f.1 thread f.2 i) f.3 in
    departs_is c.args.round number c.args.at c.args.to _ c.args.self.now thread c.leaving-event.result c.post.new.events c.post.new.sleeper (c.self.view_is ∙ c.leaving-event.ensures.left) i above (c.leaving-event.ensures.event number thread i) c.in-Ok.ensures.sent

pub returns-in-Err-clause-stops : goal.returns-in-Err-clause-stops
returns-in-Err-clause-stops g c = λ number thread i.
    let f = c.requires.there in
    let k = c.requires.station in
    let above = above_same c.args.round f.1 thread (one_there c.args.self.now.list f.0 number c.args.at f.1 thread f.2 i) f.3 in
    let back = back_is c.args.round c.args.to thread c.thread_of-back.result c.leaving-event.result c.self.inside.events c.in-Err.refusal (c.leaving-event.ensures.event number thread i) c.in-Err.ensures.refused.0 c.thread_of-back.ensures in
    let listed = c.arrive.ensures.arrived c.self.inside.number (ap (λ (t : Thread _ _ _ _). t.seat.place) c.leave_for.ensures.left) in
    departs_not_is k.0 k.1 c.args.round number c.args.at c.args.to c.stop_of-stop.result _ c.args.self.now thread c.thread_of-back.result c.leave_for.new.self c.arrive.new.self c.leaving-event.result c.in-Err.refusal c.push_reserved.new.self.items _ c.post.new.events c.post.new.sleeper (c.self.view_is ∙ c.leaving-event.ensures.left) k.2 i above c.requires.range c.in-Err.ensures.refused c.stop_of-stop.ensures back c.leave_for.ensures.left listed c.push_reserved.ensures.items c.push_reserved.ensures.capacity
