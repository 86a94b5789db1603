use Rattle.std.proofs.Common.{◌≡◌, ◌+◌, ◌++◌, ◌∷◌, [], ap, subst, sym, ◌∙◌, length, arith, refl}
use Rattle.std.proofs.lemmas.List.{length_push}
use Rattle.lw_thread.specs.Polls.{Polls}
use Rattle.lw_reactor.specs.Polling.{PollsNext, next_place}
use Rattle.lw_reactor.proofs.Polled.{from_goes, from_kept, from_more, next_on}
use Rattle.lw_reactor.proofs.Nexts.{few_more, place_more, rest_more}
use Rattle.lw_reactor.proofs.Trying.{for_reason}
use Rattle.lw_reactor.proofs.worker.Worker.poll_all.Goals as goal
use Rattle.lw_reactor.proofs.worker.Worker.poll_all.Goals.{then-not-ended, else-not-ended}

pub poll_next-requires-clause-worker : goal.poll_next-requires-clause-worker
poll_next-requires-clause-worker g c κs within =
    let k = c.requires in
    let i = c.loop.invariant in
    (k.0, k.1, from_kept g.C.Clock.readings _ g.B.Body.ends k.0 c.args.homes.now 0 i.done c.args.self.now c.loop.self i.polled k.3 k.2, from_goes g.C.Clock.readings _ g.B.Body.ends c.args.homes.now 0 i.done c.args.self.now c.loop.self i.polled k.3)

pub returns-in_err-ended-clause-stops : goal.returns-in_err-ended-clause-stops
returns-in_err-ended-clause-stops g c =
    let i = c.loop.invariant in
    for_reason c.from_residual.result c.in_err-ended.field-0.0 _ c.from_residual.ensures.1
    (record { ended = i.done; at = c.loop.at; before = c.loop.self; polled = i.polled; next = i.place; halts_so = c.in_err-ended.ensures.stops })

pub loop-preserved : goal.loop-preserved
loop-preserved g c =
    let i = c.loop.invariant in
    let e = c.in_ok-ended.ended in
    let now = c.if-not-ended.at in
    let polls = Polls g.B.Message.Tagged.letter g.B.Message.Tagged.tag_of g.B.Message.Tagged.fits g.B.Message.Tagged.marked g.B.Body.runs g.B.Body.ticks g.B.Body.takes_back in
    let next = c.in_ok-ended.ensures.polled in
    let is : now ≡ next_place c.loop.at e = elim c.if-not-ended.branch [
      | then-not-ended w ↦ w.at-is ∙ ap (next_place c.loop.at) (sym w.if-not-ended.true)
      | else-not-ended w ↦ w.at-is ∙ ap (next_place c.loop.at) (sym w.if-not-ended.false)
    ] in
    let on = next_on g.C.Clock.readings polls g.B.Body.ends c.args.homes.now c.loop.at e c.loop.self c.poll_next.new.self next in
    record {
      done = i.done ++ e ∷ [];
      polled = from_more g.C.Clock.readings polls g.B.Body.ends c.args.homes.now 0 i.done e c.args.self.now c.loop.self c.poll_next.new.self i.polled
          (subst (λ n. PollsNext g.C.Clock.readings polls g.B.Body.ends c.args.homes.now n e c.loop.self c.poll_next.new.self) i.place next);
      place = place_more c.loop.at now i.done e i.place is;
      counted = length_push i.done e ∙ ap (λ n. n + 1) i.counted;
      few = few_more e c.loop.at now c.loop.counter is i.few;
      rest = rest_more e c.loop.at now (length c.loop.self.station.list) (length c.poll_next.new.self.station.list) c.loop.counter c.threads-count.result is on.count i.rest;
    }

pub loop-init : goal.loop-init
loop-init g c = let count = c.threads-count.ensures in record { done = []; polled = refl; place = refl; counted = refl; few = omega arith; rest = omega arith }
