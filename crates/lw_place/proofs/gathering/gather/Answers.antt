use Rattle.std.proofs.Common.{◌≡◌, ◌≤◌, List, length, map, ap, sym, subst, ◌∙◌, arith}
use Rattle.std.specs.Prelude.{slice_index_or}
use Rattle.std.proofs.lemmas.List.{length-map}
use Rattle.lw_place.specs.PlaceTable.{times, StandsAt}
use Rattle.lw_place.specs.declared.place.Place.TheVariants as place
use Rattle.lw_place.specs.declared.place.Place.{Place}
use Rattle.lw_place.specs.declared.table.Stand.{Stand}
use Rattle.lw_place.specs.PlaceSeats.{BundleEnd, DeskEnd, places_of, stand}
use Rattle.lw_place.proofs.Gathers.{each_most, same_places, gathers, all_stand, times_among, ends_there}
use Rattle.lw_place.proofs.gathering.gather.Goals as goal

pub join_threads-whole-requires : goal.join_threads-whole-requires
join_threads-whole-requires c =
    let a = c.requires in
    let j = c.join_desks.result in
    λ k d l. a.its_threads k d l ∙ same_places a.places (places_of j.table j.view) c.args.desks.items a.some_desk a.its_desks c.join_desks.ensures.of

pub all_places-requires : goal.all_places-requires
all_places-requires c =
    let w = c.join_threads-whole.result in
    let g = gathers c.args.threads.items c.args.desks.items c.join_desks.result w c.requires c.join_desks.ensures.of c.join_desks.ensures.holds c.join_threads-whole.ensures in
    let d = c.done-done.ensures in
    subst (λ (e : BundleEnd). length e.view.stands ≡ e.view.threads) (sym (c.halted-halted.ensures.same ∙ d.same))
    (all_stand c.args.threads.items c.args.desks.items w c.done-done.result c.requires g d.all d.seen d.few)

pub returns-clause-places : goal.returns-clause-places
returns-clause-places c =
    let w = c.join_threads-whole.result in
    let g = gathers c.args.threads.items c.args.desks.items c.join_desks.result w c.requires c.join_desks.ensures.of c.join_desks.ensures.holds c.join_threads-whole.ensures in
    let now = ap (λ (e : BundleEnd). e.view.stands) (c.halted-halted.ensures.same ∙ c.done-done.ensures.same) ∙ g.stands in
    λ t d l. subst (λ (xs : List Stand). StandsAt xs t (slice_index_or c.in_ok-places.places.items t d)) now
    (c.in_ok-places.ensures.each t d (let n = c.in_ok-places.ensures.count in omega arith))

pub returns-clause-ended : goal.returns-clause-ended
returns-clause-ended c =
    let w = c.join_threads-whole.result in
    let g = gathers c.args.threads.items c.args.desks.items c.join_desks.result w c.requires c.join_desks.ensures.of c.join_desks.ensures.holds c.join_threads-whole.ensures in
    let now = ap (λ (e : BundleEnd). e.view.stands) (c.halted-halted.ensures.same ∙ c.done-done.ensures.same) ∙ g.stands in
    λ ended k d l. ends_there c.args.threads.items k (slice_index_or c.in_ok-places.places.items k d) ended
    (subst (λ (xs : List Stand). StandsAt xs k (slice_index_or c.in_ok-places.places.items k d)) now (c.in_ok-places.ensures.each k d (let n = c.in_ok-places.ensures.count in omega arith)))

pub returns-clause-done : goal.returns-clause-done
returns-clause-done c =
    let w = c.join_threads-whole.result in
    let g = gathers c.args.threads.items c.args.desks.items c.join_desks.result w c.requires c.join_desks.ensures.of c.join_desks.ensures.holds c.join_threads-whole.ensures in
    c.done-done.ensures.all g.desks ∙ g.retired

pub returns-clause-halted : goal.returns-clause-halted
returns-clause-halted c =
    let w = c.join_threads-whole.result in
    let g = gathers c.args.threads.items c.args.desks.items c.join_desks.result w c.requires c.join_desks.ensures.of c.join_desks.ensures.holds c.join_threads-whole.ensures in
    let same = c.done-done.ensures.same in
    let told = c.halted-halted.ensures.all (ap (λ (e : BundleEnd). e.view.desks) same ∙ g.desks ∙ sym (ap (λ (e : BundleEnd). e.view.reactors) same)) in
    let is = ap (λ (e : BundleEnd). e.view.halted) same ∙ g.halted in
    ((λ yes. subst (λ n. 1 ≤ n) is (told.0 yes)), λ no. sym is ∙ told.1 no)

pub returns-clause-seats : goal.returns-clause-seats
returns-clause-seats c =
    let w = c.join_threads-whole.result in
    let g = gathers c.args.threads.items c.args.desks.items c.join_desks.result w c.requires c.join_desks.ensures.of c.join_desks.ensures.holds c.join_threads-whole.ensures in
    let d = c.done-done.ensures in
    let all = all_stand c.args.threads.items c.args.desks.items w c.done-done.result c.requires g d.all d.seen d.few in
    let now = ap (λ (e : BundleEnd). e.view.threads) (c.halted-halted.ensures.same ∙ d.same) in
    let stands = ap length g.stands ∙ length-map c.args.threads.items stand in
    let n = c.in_ok-places.ensures.count in
    omega arith

pub returns-clause-once : goal.returns-clause-once
returns-clause-once c = λ t l.
    let w = c.join_threads-whole.result in
    let g = gathers c.args.threads.items c.args.desks.items c.join_desks.result w c.requires c.join_desks.ensures.of c.join_desks.ensures.holds c.join_threads-whole.ensures in
    let d = c.done-done.ensures in
    let now = ap (λ (e : BundleEnd). e.view.stands) (c.halted-halted.ensures.same ∙ d.same) ∙ g.stands in
    let threads = ap (λ (e : BundleEnd). e.view.threads) (c.halted-halted.ensures.same ∙ d.same) in
    let p : Place = place.Ended in
    let at = subst (λ (xs : List Stand). StandsAt xs t (slice_index_or c.in_ok-places.places.items t p)) now (c.in_ok-places.ensures.each t p (let n = c.in_ok-places.ensures.count in omega arith)) in
    let some_there = times_among t (slice_index_or c.in_ok-places.places.items t p) (map stand c.args.threads.items) at.among in
    let at_most = subst (λ (xs : List Stand). times t xs ≤ 1) g.stands (d.once t (let n = c.in_ok-places.ensures.count in omega arith)) in
    omega arith

pub returns-clause-done_seen : goal.returns-clause-done_seen
returns-clause-done_seen c = λ k d l.
    let w = c.join_threads-whole.result in
    let g = gathers c.args.threads.items c.args.desks.items c.join_desks.result w c.requires c.join_desks.ensures.of c.join_desks.ensures.holds c.join_threads-whole.ensures in
    let most = each_most (λ (x : DeskEnd). x.done_seen) c.args.desks.items k d l in
    let seen = c.done-done.ensures.seen in
    let is = g.seen in
    omega arith

pub returns-clause-halt_seen : goal.returns-clause-halt_seen
returns-clause-halt_seen c = λ k d l some.
    let w = c.join_threads-whole.result in
    let g = gathers c.args.threads.items c.args.desks.items c.join_desks.result w c.requires c.join_desks.ensures.of c.join_desks.ensures.holds c.join_threads-whole.ensures in
    let most = each_most (λ (x : DeskEnd). x.halt_seen) c.args.desks.items k d l in
    let now = ap (λ (e : BundleEnd). e.view.halt_seen) c.done-done.ensures.same in
    let is = g.halt_seen in
    c.halted-halted.ensures.seen (omega arith)
