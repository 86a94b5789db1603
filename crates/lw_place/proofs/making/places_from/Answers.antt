use Rattle.std.proofs.Common.{◌≡◌, suc, ◌+◌, ◌<◌, [], ◌∷◌, drop, length, replicate, refl, ap, sym, subst, ◌∙◌, arith, drop-cons, get_or, length-append}
use Rattle.std.proofs.lemmas.List.{get_or_default}
use Rattle.lw_place.specs.declared.place.Place.{Place}
use Rattle.lw_place.specs.declared.table.PlaceView.{PlaceView}
use Rattle.lw_place.specs.PlaceWord.{IsBelow}
use Rattle.lw_place.specs.PlaceTable.{stands_from, new_view, less_first_thread}
use Rattle.lw_place.specs.PlaceSeats.{Places, BundleEnd, new_desk, places_of}
use Rattle.lw_place.proofs.Beginning.{seat_at, one_more_thread}
use Rattle.lw_place.proofs.making.places_from.Goals as goal

pub deal_thread-requires-clause-first : goal.deal_thread-requires-clause-first
deal_thread-requires-clause-first c =
    let hs = c.args.homes.of.items in
    let t = c.loop-thread.thread in
    let one = drop-cons hs t c.index.result.now (let a = c.loop-thread-test.true in let b = c.len-thread-end.ensures in omega arith) in (
      stands_from (t + 1) (drop (suc t) hs),
      ap (λ (v : PlaceView). v.stands) c.loop-thread.invariant.rest ∙ ap (λ l. stands_from t l) one ∙ (λ k. record { thread = t; place = sym c.index.ensures k } ∷ stands_from (t + 1) (drop (suc t) hs)),
    )

pub deal_thread-requires-clause-below : goal.deal_thread-requires-clause-below
deal_thread-requires-clause-below c =
    let hs = c.args.homes.of.items in
    let t = c.loop-thread.thread in
    let here : t < length hs = (let a = c.loop-thread-test.true in let b = c.len-thread-end.ensures in omega arith) in
    let same = ap (λ (v : PlaceView). v.reactors) c.loop-thread.invariant.rest in
    subst (λ r. IsBelow r c.index.result.now) (sym same)
    (subst (λ (q : Place). IsBelow c.args.homes.reactors q) (sym c.index.ensures) (c.requires.homes t c.index.result.now here))

pub loop-thread-preserved : goal.loop-thread-preserved
loop-thread-preserved c =
    let a = c.in_ok-deal_thread.ensures in
    let i = c.loop-thread.invariant in
    let hs = c.args.homes.of.items in
    let n = length hs in
    let t = c.loop-thread.thread in
    let here : t < n = (let a = c.loop-thread-test.true in let b = c.len-thread-end.ensures in omega arith) in
    let old = c.loop-thread.threads.items in
    let is = c.in_ok-push.ensures.items in
    let next : suc t ≡ t + 1 = omega arith in
    let d = c.index.result.now in
    let one = drop-cons hs t d here in
    let p : Places = record { table = c.in_ok-all.all.table; threads = n; reactors = c.args.homes.reactors } in
    let now : c.loop-thread.all.view ≡ new_view n c.args.homes.reactors (record { thread = t; place = get_or hs t d } ∷ stands_from (t + 1) (drop (t + 1) hs)) c.args.homes.reactors =
    i.rest ∙ ap (λ l. new_view n c.args.homes.reactors (stands_from t l) c.args.homes.reactors) (one ∙ ap (λ k. get_or hs t d ∷ drop k hs) next) in
    let seat : (q : Place) → c.in_ok-deal_thread.field-0 ≡ seat_at p hs q t =
    λ q. a.thread ∙ (λ k. record {
      places = record { table = i.table k; threads = (i.rest k).threads; reactors = (i.rest k).reactors };
      thread = t;
      place = (c.index.ensures ∙ get_or_default hs t d q here) k;
    }) in
    record {
      rest = ap (λ (e : BundleEnd). e.view) a.rest ∙ ap less_first_thread now;
      table = ap (λ (e : BundleEnd). e.table) a.rest ∙ i.table;
      count = (let l = ap length is ∙ length-append old (c.in_ok-deal_thread.field-0 ∷ []) in let m = i.count in omega arith);
      dealt = one_more_thread p hs old c.push.new.self.items t c.in_ok-deal_thread.field-0 is i.count i.dealt seat;
    }

pub returns : goal.returns
returns c =
    let i = c.loop-thread.invariant in
    let end = c.loop-thread-test.false in
    let most = c.loop-thread.auto in
    let b = c.len-thread-end.ensures in
    let p : Places = record { table = c.in_ok-all.all.table; threads = length c.args.homes.of.items; reactors = c.args.homes.reactors } in
    let n : c.loop-thread.thread ≡ length c.args.homes.of.items = (let z = most.thread-end in omega arith) in
    let same : places_of c.loop-thread.all.table c.loop-thread.all.view ≡ p = λ k. record { table = i.table k; threads = (i.rest k).threads; reactors = (i.rest k).reactors } in
    record {
      places = p;
      for_threads = refl;
      for_reactors = refl;
      thread_count = i.count ∙ n;
      each_thread = λ t d q l. i.dealt t d q (omega arith);
      desks = c.in_ok-desks.ensures ∙ ap (λ z. replicate c.args.homes.reactors (new_desk z)) same;
    }
