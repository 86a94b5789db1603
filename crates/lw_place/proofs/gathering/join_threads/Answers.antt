use Rattle.std.proofs.Common.{◌≡◌, List, [], ◌∷◌, ◌++◌, map, ap, sym, ◌∙◌, append_assoc, arith}
use Rattle.std.proofs.lemmas.List.Elements.{All-rest}
use Rattle.std.specs.Vec.Iter.{into_iter_items}
use Rattle.lw_place.specs.declared.table.PlaceView.{PlaceView}
use Rattle.lw_place.specs.PlaceSeats.{BundleEnd, ThreadEnd, places_of, stand}
use Rattle.lw_place.proofs.gathering.join_threads.Goals as goal

pub loop-thread-preserved : goal.loop-thread-preserved
loop-thread-preserved c =
    let i = c.loop-thread.invariant in
    let s = c.in-Some.ensures.steps.0 in
    let b = c.into_bundle.ensures.1 in
    let t = c.take_in.ensures in
    let first = c.args.whole in
    let old = c.loop-thread.whole.view.stands in
    let rest = into_iter_items c.next.new.self in
    record {
      places = ap (λ (e : BundleEnd). places_of e.table e.view) t ∙ i.places;
      desks = (let a = ap (λ (e : BundleEnd). e.view.desks) t in let z = ap (λ (v : PlaceView). v.desks) b in let o = i.desks in omega arith);
      retired = (let a = ap (λ (e : BundleEnd). e.view.retired) t in let z = ap (λ (v : PlaceView). v.retired) b in let o = i.retired in omega arith);
      halted = (let a = ap (λ (e : BundleEnd). e.view.halted) t in let z = ap (λ (v : PlaceView). v.halted) b in let o = i.halted in omega arith);
      seen = (let a = ap (λ (e : BundleEnd). e.view.done_seen) t in let z = ap (λ (v : PlaceView). v.done_seen) b in let o = i.seen in omega arith);
      halt_seen = (let a = ap (λ (e : BundleEnd). e.view.halt_seen) t in let z = ap (λ (v : PlaceView). v.halt_seen) b in let o = i.halt_seen in omega arith);
      stands = ap (λ (e : BundleEnd). e.view.stands ++ map stand rest) t ∙ ap (λ (v : PlaceView). (old ++ v.stands) ++ map stand rest) b ∙ append_assoc old (stand c.in-Some.thread ∷ []) (map stand rest)
          ∙ ap (λ (ts : List ThreadEnd). old ++ map stand ts) (sym s) ∙ i.stands;
      of = All-rest (λ (e : ThreadEnd). e.places ≡ places_of first.table first.view) c.in-Some.thread rest (into_iter_items c.loop-thread.thread-iterator) s i.of;
    }
