use Rattle.std.proofs.Common.{rules, ◌≡◌, List, [], ◌∷◌, ◌++◌, length, refl, ap, ◌∙◌, arith, length-append}
use Rattle.std.proofs.lemmas.List.Elements.{All-rest}
use Rattle.std.specs.Vec.Iter.{into_iter_items}
use Rattle.std.proofs.lemmas.List.{nil_from_length}
use Rattle.lw_place.specs.declared.table.Stand.{Stand}
use Rattle.lw_place.specs.PlaceSeats.{BundleEnd, DeskEnd, places_of, all_retired, all_halted, most_seen, most_halt_seen}
use Rattle.lw_base.proofs.Totals.{total_snoc}
use Rattle.lw_place.proofs.Gathers.{most_snoc}
use Rattle.lw_place.proofs.gathering.join_desks.Goals as goal

pub loop-desk-preserved : goal.loop-desk-preserved
loop-desk-preserved c =
    let i = c.loop-desk.invariant in
    let s = c.in-Some-desk.ensures.steps.0 in
    let b = c.into_bundle.ensures in
    let t = c.take_in.ensures in
    let first = c.into_bundle-whole.result in
    let rest = into_iter_items c.next.new.self in
    record {
      places = ap (λ (e : BundleEnd). places_of e.table e.view) t ∙ i.places;
      desks = (let a = ap (λ (e : BundleEnd). e.view.desks) t in let z = b.one_desk in let n = ap length s in let o = i.desks in omega arith);
      retired = (let a = ap (λ (e : BundleEnd). e.view.retired) t in let z = ap (λ (d : DeskEnd). d.retired) b.desk in let n = ap all_retired s in let o = i.retired in omega arith);
      halted = (let a = ap (λ (e : BundleEnd). e.view.halted) t in let z = ap (λ (d : DeskEnd). d.halted) b.desk in let n = ap all_halted s in let o = i.halted in omega arith);
      seen = (let a = ap (λ (e : BundleEnd). e.view.done_seen) t in let z = ap (λ (d : DeskEnd). d.done_seen) b.desk in let n = ap most_seen s in let o = i.seen in omega arith);
      halt_seen = (let a = ap (λ (e : BundleEnd). e.view.halt_seen) t in let z = ap (λ (d : DeskEnd). d.halt_seen) b.desk in let n = ap most_halt_seen s in let o = i.halt_seen in omega arith);
      stands = ap (λ (e : BundleEnd). e.view.stands) t ∙ ap (λ (xs : List Stand). xs ++ c.into_bundle.result.view.stands) i.stands ∙ b.no_threads;
      of = All-rest (λ (d : DeskEnd). d.places ≡ places_of first.table first.view) c.in-Some-desk.desk rest (into_iter_items c.loop-desk.desk-iterator) s i.of;
    }

pub returns-clause-holds : goal.returns-clause-holds
returns-clause-holds c =
    let i = c.loop-desk.invariant in
    let f = c.into_bundle-whole.ensures in
    let first = c.in-Some.first in
    let others = c.pop.new.self.items in
    let is = c.in-Some.ensures.items in
    let all : into_iter_items c.into_iter-desk-iterator.result ≡ others = search rules in
    let rest = into_iter_items c.loop-desk.desk-iterator in
    let end : length rest ≡ 0 = search rules in
    let none : rest ≡ [] = nil_from_length rest end in
    record {
      of = refl;
      desks = (let a = i.desks in let b = f.one_desk in let n = ap length is ∙ length-append others (first ∷ []) in let m = ap length all in omega arith);
      retired = (let a = i.retired in let b = ap (λ (d : DeskEnd). d.retired) f.desk in let n = ap all_retired is ∙ total_snoc (λ (d : DeskEnd). d.retired) others first in let m = ap all_retired all in let z = ap all_retired none in omega arith);
      halted = (let a = i.halted in let b = ap (λ (d : DeskEnd). d.halted) f.desk in let n = ap all_halted is ∙ total_snoc (λ (d : DeskEnd). d.halted) others first in let m = ap all_halted all in let z = ap all_halted none in omega arith);
      seen = (let a = i.seen in let b = ap (λ (d : DeskEnd). d.done_seen) f.desk in let n = ap most_seen is ∙ most_snoc (λ d. d.done_seen) others first in let m = ap most_seen all in let z = ap most_seen none in omega arith);
      halt_seen = (let a = i.halt_seen in let b = ap (λ (d : DeskEnd). d.halt_seen) f.desk in let n = ap most_halt_seen is ∙ most_snoc (λ d. d.halt_seen) others first in let m = ap most_halt_seen all in let z = ap most_halt_seen none in omega arith);
      stands = i.stands;
    }
