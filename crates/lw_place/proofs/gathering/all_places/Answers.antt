use Rattle.std.proofs.Common.{ℕ, ◌+◌, ◌<◌, [], ◌∷◌, length, ap, sym, subst, ◌∙◌, arith, length-append}
use Rattle.std.specs.Prelude.{slice_index_or}
use Rattle.lw_place.specs.PlaceTable.{StandsAt}
use Rattle.lw_place.specs.declared.place.Place.{Place}
use Rattle.lw_place.specs.PlaceSeats.{BundleEnd}
use Rattle.lw_place.proofs.Gathers.{one_more_place}
use Rattle.lw_place.proofs.gathering.all_places.Goals as goal

pub loop-thread-preserved : goal.loop-thread-preserved
loop-thread-preserved c =
    let i = c.loop-thread.invariant in
    let thread = c.loop-thread.thread in
    let old = c.loop-thread.places.items in
    let new = c.push.new.self.items in
    let is = c.in_ok-push.ensures.items in
    record {
      same = c.place.ensures.same ∙ i.same;
      count = (let n = ap length is ∙ length-append old (c.place.result ∷ []) in let m = i.count in omega arith);
      each = subst (λ (e : BundleEnd). (t : ℕ) (d : Place) → t < thread + 1 → StandsAt e.view.stands t (slice_index_or new t d)) (sym c.place.ensures.same)
          (one_more_place c.loop-thread.whole.view.stands old new thread c.place.result is i.count i.each c.place.ensures.its);
    }

pub returns-clause-each : goal.returns-clause-each
returns-clause-each c =
    let i = c.loop-thread.invariant in
    λ t d l. subst (λ (e : BundleEnd). StandsAt e.view.stands t (slice_index_or c.loop-thread.places.items t d)) i.same
    (i.each t d (let end = c.loop-thread-test.false in let is = c.threads-thread-end.ensures in omega arith))
