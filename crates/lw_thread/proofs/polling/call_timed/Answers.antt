use Rattle.std.proofs.Common.{◌∷◌, ◌++◌, []}
use Rattle.lw_thread.specs.Links.{known_tied}
use Rattle.lw_thread.specs.Posting.{flow_tied}
use Rattle.lw_thread.proofs.Calling.{going_beside, going_ticked, busy_more, step_timed, end_timed}
use Rattle.lw_thread.proofs.Live.{live_timed}
use Rattle.lw_thread.proofs.PollerSets.{kept_changes, kept_timed, timed_is_live}
use Rattle.lw_thread.proofs.polling.call_timed.Goals as goal

pub returns-in_default-clause-called : goal.returns-in_default-clause-called
returns-in_default-clause-called g c =
    let i = c.loop.invariant in
    let none = c.in_default.ensures.none in
    record {
      calls = i.calls;
      each = end_timed g.B.Body.ticks c.args.now i.calls (flow_tied c.args.links.now c.args.acts.now c.args.body.now) c.args.links.now c.loop.acts c.next_timed.new.self c.loop.body i.went none.0 none.1;
      was_busy = i.busy;
    }

pub tick-requires-clause-live : goal.tick-requires-clause-live
tick-requires-clause-live g c =
    let place = c.in-Some-next_timed.ensures.given in
    timed_is_live c.loop.acts.pollers c.loop.invariant.kept place.0 c.in-Some-next_timed.poller.0 c.next_timed.new.self.pollers place.1 place.2

pub tick-requires-clause-called : goal.tick-requires-clause-called
tick-requires-clause-called g c =
    let place = c.in-Some-next_timed.ensures.given in
    let live = live_timed place.0 c.in-Some-next_timed.poller.0 c.loop.acts.pollers c.next_timed.new.self.pollers place.1.within place.2 in
    let now = going_beside g.B.Message.Tagged.letter g.B.Message.Tagged.fits g.B.Body.lawful c.args.links.now c.loop.acts c.next_timed.new.self c.loop.body c.loop.invariant.going c.in-Some-next_timed.ensures.rest live in
    (known_tied c.args.links.now, now.of, now.keeps)

pub loop-preserved : goal.loop-preserved
loop-preserved g c =
    let i = c.loop.invariant in
    let place = c.in-Some-next_timed.ensures.given in
    let live = live_timed place.0 c.in-Some-next_timed.poller.0 c.loop.acts.pollers c.next_timed.new.self.pollers place.1.within place.2 in
    let rest = c.in-Some-next_timed.ensures.rest in
    let now = going_beside g.B.Message.Tagged.letter g.B.Message.Tagged.fits g.B.Body.lawful c.args.links.now c.loop.acts c.next_timed.new.self c.loop.body i.going rest live in
    let t = c.in_ok-work.ensures in
    let first = flow_tied c.args.links.now c.args.acts.now c.args.body.now in
    record {
      kept = kept_changes t.adds.changes c.next_timed.new.self.pollers c.tick.new.acts.pollers (kept_timed c.loop.acts.pollers i.kept place.0 c.in-Some-next_timed.poller.0 c.next_timed.new.self.pollers place.1 place.2) t.adds.pollers;
      going = going_ticked g.B.Message.Tagged.letter g.B.Message.Tagged.fits g.B.Body.lawful c.args.links.now c.next_timed.new.self c.tick.new.acts c.loop.body c.tick.new.self now t.lawful t.adds t.fits;
      calls = i.calls ++ record { poller = c.in-Some-next_timed.poller.0; work = c.in_ok-work.work } ∷ [];
      went = step_timed g.B.Body.ticks c.args.now i.calls first c.args.links.now c.loop.acts c.next_timed.new.self c.tick.new.acts c.loop.body c.tick.new.self c.in-Some-next_timed.poller.0 c.in_ok-work.work i.went place rest t.does t.adds;
      busy = busy_more c.loop.busy c.is_busy-busy.result i.calls (record { poller = c.in-Some-next_timed.poller.0; work = c.in_ok-work.work }) i.busy c.is_busy-busy.ensures;
    }
