use Rattle.std.proofs.Common.{[], ◌∷◌, ◌++◌, length, refl, sym, ap, ◌∙◌, arith}
use Rattle.lw_station.proofs.Keeps.{stop_kept}
use Rattle.lw_station.proofs.Steps.{each_more, next_rest, next_steps}
use Rattle.lw_station.proofs.Turning.{takes_is, batch_more, more_taken, none_left, all_handled, some_kept, some_go, some_still, stop_still}
use Rattle.lw_station.proofs.station.Station.take_events.Goals as goal

pub loop-init : goal.loop-init
loop-init g c =
    let t = c.take-count.ensures in
    let d = c.take-count.new.self in
    let same = ap length c.reserve.ensures.items in
    let size = c.reserve.new.self.ok.0 in
    let enough = c.in_ok-reserve.ensures.ok in
    let count = t.count.0 in
    let few = t.count.1 in
    record {
      done = [];
      start = _;
      taken = takes_is _ c.args.self.now c.reserve.new.self.items _ d c.self.view_is c.reserve.ensures.items (omega arith) (omega arith) t.taken t.order (λ low. t.fewer (omega arith));
      handled = refl;
      turns = omega arith;
      whole = sym count;
      room = omega arith;
    }

pub handle_next-requires-clause-station : goal.handle_next-requires-clause-station
handle_next-requires-clause-station g c κs within =
    let i = c.loop.invariant in
    let k = c.requires.going in
    (k.0, k.1, some_kept k.0 k.1 (i.done ++ c.loop.self.events.batch) i.done c.args.self.now i.start c.loop.self i.taken i.handled k.2, some_go k.0 k.1 (i.done ++ c.loop.self.events.batch) i.done c.args.self.now i.start c.loop.self i.taken i.handled k.2 k.3)

pub returns-in_err-handle_next-clause-kept : goal.returns-in_err-handle_next-clause-kept
returns-in_err-handle_next-clause-kept g c = λ run homes k.
    let i = c.loop.invariant in
    let h = c.in_err-handle_next.ensures.stops in
    stop_kept run homes h.0 c.in_err-handle_next.field-0.0 c.loop.self c.handle_next.new.self h.1 (some_kept run homes (i.done ++ c.loop.self.events.batch) i.done c.args.self.now i.start c.loop.self i.taken i.handled k)

pub returns-in_err-handle_next-clause-still : goal.returns-in_err-handle_next-clause-still
returns-in_err-handle_next-clause-still g c =
    let i = c.loop.invariant in
    let h = c.in_err-handle_next.ensures.stops in
    stop_still (i.done ++ c.loop.self.events.batch) i.done h.0 c.in_err-handle_next.field-0.0 c.args.self.now i.start c.loop.self c.handle_next.new.self i.taken i.handled h.1

pub loop-preserved : goal.loop-preserved
loop-preserved g c =
    let i = c.loop.invariant in
    let h = c.in_ok-handle_next.ensures.handled in
    let s = c.loop.self in
    let n = c.handle_next.new.self in
    let more = batch_more i.done h.0 s n h.1 in
    let rest = ap length (next_rest h.0 s n h.1) in
    let steps = next_steps h.0 s n h.1 in
    let turns = i.turns in
    let room = i.room in
    let same = steps.room in
    let longer = steps.longer in
    record {
      done = i.done ++ h.0 ∷ [];
      start = i.start;
      taken = more_taken i.done h.0 c.args.self.now i.start s n h.1 i.taken;
      handled = each_more i.done h.0 i.start s n i.handled h.1;
      turns = omega arith;
      whole = sym (ap length more) ∙ i.whole;
      room = omega arith;
    }

pub returns-clause-handled : goal.returns-clause-handled
returns-clause-handled g c =
    let i = c.loop.invariant in
    all_handled i.done c.args.self.now i.start c.loop.self c.take-count.result (none_left c.loop.self.events.batch (let turns = i.turns in let over = c.loop-test.false in omega arith)) i.taken i.handled i.whole

pub returns-clause-kept : goal.returns-clause-kept
returns-clause-kept g c = λ run homes k.
    let i = c.loop.invariant in
    some_kept run homes (i.done ++ c.loop.self.events.batch) i.done c.args.self.now i.start c.loop.self i.taken i.handled k

pub returns-clause-going : goal.returns-clause-going
returns-clause-going g c = λ run homes k go.
    let i = c.loop.invariant in
    some_go run homes (i.done ++ c.loop.self.events.batch) i.done c.args.self.now i.start c.loop.self i.taken i.handled k go

pub returns-clause-still : goal.returns-clause-still
returns-clause-still g c =
    let i = c.loop.invariant in
    some_still (i.done ++ c.loop.self.events.batch) i.done c.args.self.now i.start c.loop.self i.taken i.handled
