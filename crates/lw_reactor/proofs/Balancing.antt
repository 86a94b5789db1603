-- What the round of a turn keeps.
use Rattle.std.proofs.Common.{◌≡◌, ℕ, List, Option, None, Some, unwrap_or, refl, sym, ap, subst, ◌∙◌, ⊎_elim, le_refl}
use Rattle.std.specs.Prelude.{IfSome}
use Rattle.lw_place.specs.PlaceSeats.{DeskEnd}
use Rattle.lw_thread.specs.Runs.{RunId}
use Rattle.lw_rounds.specs.Measures.{HasOnlyLooked}
use Rattle.lw_rounds.specs.Rounds.{BalancerEnd, IsDue, Makes}
use Rattle.lw_station.specs.declared.stop.Stop.{Stop}
use Rattle.lw_station.specs.Stations.{MayAllGo}
use Rattle.lw_station.proofs.Steps.{same_still}
use Rattle.lw_reactor.specs.declared.reactor.Span.{Span}
use Rattle.lw_reactor.specs.Workers.{IsWorkerOf, WorkerEnd, with_sent}
use Rattle.lw_reactor.specs.Reactors.{BalancerStill, BalancesRun, IsGoing, IsReactorOf, NoneIsDue, NoneTold, RoundsGoOn, first_of}
use Rattle.lw_reactor.specs.Turns.{spanned}
use Rattle.lw_reactor.specs.Rounding.{Balances, MakesNone, MakesRound, OrderFails, OrdersAll, OrdersSome, RoundFails, RoundStops, noting, telling_own}
use Rattle.lw_reactor.proofs.Sending.{SentOn, orders_on}
use Rattle.lw_reactor.proofs.Stills.{WorkerStill, readings_same, sent_worker_still, worker_both, worker_same, worker_sent}
use Rattle.lw_reactor.proofs.Rounded.{made_more, meter_goes, meter_runs, more_goes, more_runs, none_spanned, none_told, not_due_again, noted_first, noting_goes, noting_runs, own_same}

-- a desk that only looked is of the same places, and has retired as many
record LookedOn (d e : DeskEnd) : Type 0 where
  places : e.places ≡ d.places
  retired : e.retired ≡ d.retired

looked_on : (d e : DeskEnd) → HasOnlyLooked d e → LookedOn d e
looked_on d e h = record { places = ap (λ (x : DeskEnd). x.places) h.desk; retired = ap (λ (x : DeskEnd). x.retired) h.desk }

made_on : (now : ℕ) (b c : BalancerEnd) (d e : DeskEnd) → Makes now b c d e → LookedOn d e
made_on now b c d e m = record { places = ap (λ (x : DeskEnd). x.places) m.measured.found; retired = ap (λ (x : DeskEnd). x.retired) m.measured.found }

module _ {L F M B C : Type 0} where
  -- ---- the balancer once the sums of the reactor's own threads are told

  pub own_runs : (run : RunId F) (b : BalancerEnd) (w : WorkerEnd L F M B C) → BalancesRun run w.now b → BalancesRun run w.now (telling_own w.station (noting w.now b))
  own_runs run b w h = meter_runs run w.now (noting w.now b) (telling_own w.station (noting w.now b)) (own_same w.station (noting w.now b)) (noting_runs run w.now b h)

  own_goes : (b : BalancerEnd) (w : WorkerEnd L F M B C) → RoundsGoOn b (telling_own w.station (noting w.now b))
  own_goes b w = meter_goes b (noting w.now b) (telling_own w.station (noting w.now b)) (own_same w.station (noting w.now b)) (noting_goes w.now b)

  own_first : (b : BalancerEnd) (w : WorkerEnd L F M B C) → (telling_own w.station (noting w.now b)).first ≡ Some (unwrap_or b.first w.now)
  own_first b w = ap (λ (x : BalancerEnd). x.first) (own_same w.station (noting w.now b))

  pub own_due : (b : BalancerEnd) (w : WorkerEnd L F M B C) → IsDue w.now (noting w.now b) → IsDue w.now (telling_own w.station (noting w.now b))
  own_due b w d = subst (IsDue w.now) (sym (own_same w.station (noting w.now b))) (record { first = d.first; noted = d.noted; past = d.past; few = d.few })

  own_other : (b : BalancerEnd) (w : WorkerEnd L F M B C) → telling_own w.station (noting w.now b) ≡ record b { meter = (telling_own w.station (noting w.now b)).meter; first = (telling_own w.station (noting w.now b)).first }
  own_other b w = own_same w.station (noting w.now b) ∙ (λ i. record b { meter = (telling_own w.station (noting w.now b)).meter; first = sym (own_first b w) i })

  -- ---- the worker, of which the desk has looked and the events were sent

  looked_kept : (run : RunId F) (homes : List ℕ) (w : WorkerEnd L F M B C) (e : DeskEnd) → LookedOn w.desk e → IsWorkerOf run homes w → IsWorkerOf run homes (record w { desk = e })
  looked_kept run homes w e on k = record { station = k.station; desk = on.places ∙ k.desk; retired = on.retired ∙ k.retired; few = k.few; remains = k.remains }

  looked_still : (readings : C → Option (List ℕ)) (w : WorkerEnd L F M B C) (e : DeskEnd) → LookedOn w.desk e → WorkerStill readings w (record w { desk = e })
  looked_still readings w e on = record { number = refl; events = same_still w.station.events; desk = on.places; now = le_refl w.now; clock = readings_same (readings w.clock) }

  -- what a round, whose orders were sent or not, leaves of the worker
  record Rounded (w v : WorkerEnd L F M B C) : Type 0 where
    looked : LookedOn w.desk v.desk
    sent : SentOn w.station.events v.station.events w.station.sleeper v.station.sleeper
    worker : v ≡ with_sent v.station.events v.station.sleeper (record w { desk = v.desk })

  rounded_kept : (run : RunId F) (homes : List ℕ) (w v : WorkerEnd L F M B C) → Rounded w v → IsWorkerOf run homes w → IsWorkerOf run homes v
  rounded_kept run homes w v r k = subst (IsWorkerOf run homes) (sym r.worker) (worker_sent run homes (record w { desk = v.desk }) v.station.events v.station.sleeper r.sent (looked_kept run homes w v.desk r.looked k))

  rounded_still : (readings : C → Option (List ℕ)) (w v : WorkerEnd L F M B C) → Rounded w v → WorkerStill readings w v
  rounded_still readings w v r = subst (WorkerStill readings w) (sym r.worker)
      (worker_both readings w (record w { desk = v.desk }) (with_sent v.station.events v.station.sleeper (record w { desk = v.desk })) (looked_still readings w v.desk r.looked) (sent_worker_still readings (record w { desk = v.desk }) v.station.events v.station.sleeper r.sent))

  rounded_now : (w v : WorkerEnd L F M B C) → Rounded w v → v.now ≡ w.now
  rounded_now w v r = ap (λ (x : WorkerEnd L F M B C). x.now) r.worker

  all_on : (c : BalancerEnd) (w v : WorkerEnd L F M B C) → OrdersAll c w.station.events v.station.events w.station.sleeper v.station.sleeper → SentOn w.station.events v.station.events w.station.sleeper v.station.sleeper
  all_on c w v o = orders_on (o.round) (o.round).orders w.station.events v.station.events w.station.sleeper v.station.sleeper o.sent

  some_on : (c : BalancerEnd) (why : Stop) (w v : WorkerEnd L F M B C) → OrdersSome c why w.station.events v.station.events w.station.sleeper v.station.sleeper → SentOn w.station.events v.station.events w.station.sleeper v.station.sleeper
  some_on c why w v o = orders_on (o.round) o.done w.station.events v.station.events w.station.sleeper v.station.sleeper o.sent

  made_rounded : (b c : BalancerEnd) (w v : WorkerEnd L F M B C) → MakesRound b c w v → Rounded w v
  made_rounded b c w v m = record { looked = made_on w.now (telling_own w.station (noting w.now b)) c w.desk v.desk m.made; sent = all_on c w v m.ordered; worker = m.worker }

  failed_rounded : (why : Stop) (b c : BalancerEnd) (w v : WorkerEnd L F M B C) → OrderFails why b c w v → Rounded w v
  failed_rounded why b c w v m = record { looked = made_on w.now (telling_own w.station (noting w.now b)) c w.desk v.desk m.made; sent = some_on c why w v m.ordered; worker = m.worker }

  made_runs : (run : RunId F) (b c : BalancerEnd) (w : WorkerEnd L F M B C) (e : DeskEnd) → IsDue w.now (noting w.now b) → Makes w.now (telling_own w.station (noting w.now b)) c w.desk e → BalancesRun run w.now b → BalancesRun run w.now c
  made_runs run b c w e due m h =
      let x = telling_own w.station (noting w.now b) in
      more_runs run w.now x c (made_more w.now x c w.desk e m) (own_due b w due) (own_runs run b w h)

  made_goes : (b c : BalancerEnd) (w : WorkerEnd L F M B C) (e : DeskEnd) → Makes w.now (telling_own w.station (noting w.now b)) c w.desk e → RoundsGoOn b c
  made_goes b c w e m =
      let x = telling_own w.station (noting w.now b) in
      more_goes w.now b x c (made_more w.now x c w.desk e m) (own_other b w)

  made_first : (b c : BalancerEnd) (w : WorkerEnd L F M B C) (e : DeskEnd) → Makes w.now (telling_own w.station (noting w.now b)) c w.desk e → c.first ≡ Some (unwrap_or b.first w.now)
  made_first b c w e m = ap (λ (x : BalancerEnd). x.first) m.made ∙ own_first b w

  -- ---- a round that is made, or isn't due

  pub balances_kept : (run : RunId F) (homes : List ℕ) (b c : Option BalancerEnd) (w v : WorkerEnd L F M B C) → Balances b c w v → IsReactorOf run homes b w → IsReactorOf run homes c v
  balances_kept run homes None None w v h k = subst (IsReactorOf run homes None) (sym h) k
  balances_kept run homes None (Some c) w v h k = absurd h
  balances_kept run homes (Some b) None w v h k = absurd h
  balances_kept run homes (Some b) (Some c) w v h k = ⊎_elim
      (λ (m : MakesRound b c w v). (let r = made_rounded b c w v m in
      record {
        its_homes = k.its_homes;
        worker = rounded_kept run homes w v r k.worker;
        balancer = subst (λ n. BalancesRun run n c) (sym (rounded_now w v r)) (made_runs run b c w v.desk m.due m.made k.balancer);
      }))
      (λ (m : MakesNone b c w v). subst (λ (x : WorkerEnd L F M B C). IsReactorOf run homes (Some c) x) (sym m.worker)
      (record { its_homes = k.its_homes; worker = k.worker; balancer = subst (BalancesRun run w.now) (sym m.balancer) (noting_runs run w.now b k.balancer) }))
      h

  pub balances_go : (homes : List ℕ) (b c : Option BalancerEnd) (w v : WorkerEnd L F M B C) → Balances b c w v → IsGoing homes b w → IsGoing homes c v
  balances_go homes None None w v h g = subst (IsGoing homes None) (sym h) g
  balances_go homes None (Some c) w v h g = absurd h
  balances_go homes (Some b) None w v h g = absurd h
  balances_go homes (Some b) (Some c) w v h g = ⊎_elim
      (λ (m : MakesRound b c w v). (let r = made_rounded b c w v m in
      let list : MayAllGo homes v.station = subst (λ (x : WorkerEnd L F M B C). MayAllGo homes x.station) (sym m.worker) g.list in
      record { list = list; no_batch = (r.sent).batch ∙ g.no_batch; none_told = none_told w.now (telling_own w.station (noting w.now b)) c w.desk v.desk m.made }))
      (λ (m : MakesNone b c w v). subst (λ (x : WorkerEnd L F M B C). IsGoing homes (Some c) x) (sym m.worker)
      (record { list = g.list; no_batch = g.no_batch; none_told = subst NoneTold (sym m.balancer) g.none_told }))
      h

  pub balances_still : (readings : C → Option (List ℕ)) (b c : Option BalancerEnd) (w v : WorkerEnd L F M B C) → Balances b c w v → WorkerStill readings w v × BalancerStill b c
  balances_still readings None None w v h = (worker_same readings w v h, tt)
  balances_still readings None (Some c) w v h = absurd h
  balances_still readings (Some b) None w v h = absurd h
  balances_still readings (Some b) (Some c) w v h = ⊎_elim
      (λ (m : MakesRound b c w v). (rounded_still readings w v (made_rounded b c w v m), made_goes b c w v.desk m.made))
      (λ (m : MakesNone b c w v). (worker_same readings w v m.worker, subst (RoundsGoOn b) (sym m.balancer) (noting_goes w.now b)))
      h

  pub balances_first : (span : Option Span) (b c : Option BalancerEnd) (w v : WorkerEnd L F M B C) → Balances b c w v → IfSome b (λ (x : BalancerEnd). x.first ≡ first_of span) → IfSome c (λ (x : BalancerEnd). x.first ≡ first_of (spanned w.now span))
  balances_first span None None w v h f = tt
  balances_first span None (Some c) w v h f = absurd h
  balances_first span (Some b) None w v h f = absurd h
  balances_first span (Some b) (Some c) w v h f = ⊎_elim
      (λ (m : MakesRound b c w v). made_first b c w v.desk m.made ∙ noted_first w.now b.first span f)
      (λ (m : MakesNone b c w v). ap (λ (x : BalancerEnd). x.first) m.balancer ∙ noted_first w.now b.first span f)
      h

  pub balances_none_due : (run : RunId F) (span : Option Span) (b c : Option BalancerEnd) (w v : WorkerEnd L F M B C) → Balances b c w v → IfSome b (BalancesRun run w.now) → IfSome c (NoneIsDue (spanned w.now span))
  balances_none_due run span None None w v h k = tt
  balances_none_due run span None (Some c) w v h k = absurd h
  balances_none_due run span (Some b) None w v h k = absurd h
  balances_none_due run span (Some b) (Some c) w v h k = ⊎_elim
      (λ (m : MakesRound b c w v). (let x = telling_own w.station (noting w.now b) in
      none_spanned w.now span c (not_due_again w.now x c (own_runs run b w k).period (made_more w.now x c w.desk v.desk m.made))))
      (λ (m : MakesNone b c w v). none_spanned w.now span c (λ d. m.not_due (subst (IsDue w.now) m.balancer d)))
      h

  -- ---- a round at which the reactor stopped

  fails_kept : (run : RunId F) (homes : List ℕ) (why : Stop) (b c : BalancerEnd) (w v : WorkerEnd L F M B C) → RoundFails why b c w v → IsReactorOf run homes (Some b) w → IsReactorOf run homes (Some c) v
  fails_kept run homes why b c w v m k = subst (IsReactorOf run homes (Some c)) (sym m.worker) (record {
    its_homes = k.its_homes;
    worker = looked_kept run homes w v.desk (looked_on w.desk v.desk m.looked) k.worker;
    balancer = meter_runs run w.now (telling_own w.station (noting w.now b)) c (m.read).same (own_runs run b w k.balancer);
  })

  order_kept : (run : RunId F) (homes : List ℕ) (why : Stop) (b c : BalancerEnd) (w v : WorkerEnd L F M B C) → OrderFails why b c w v → IsReactorOf run homes (Some b) w → IsReactorOf run homes (Some c) v
  order_kept run homes why b c w v m k =
      let r = failed_rounded why b c w v m in record {
        its_homes = k.its_homes;
        worker = rounded_kept run homes w v r k.worker;
        balancer = subst (λ n. BalancesRun run n c) (sym (rounded_now w v r)) (made_runs run b c w v.desk m.due m.made k.balancer);
      }

  pub round_stops_kept : (run : RunId F) (homes : List ℕ) (why : Stop) (b c : Option BalancerEnd) (w v : WorkerEnd L F M B C) → RoundStops why b c w v → IsReactorOf run homes b w → IsReactorOf run homes c v
  round_stops_kept run homes why None c w v h k = absurd h
  round_stops_kept run homes why (Some b) None w v h k = absurd h
  round_stops_kept run homes why (Some b) (Some c) w v h k = ⊎_elim (λ m. fails_kept run homes why b c w v m k) (λ m. order_kept run homes why b c w v m k) h

  pub round_stops_still : (readings : C → Option (List ℕ)) (why : Stop) (b c : Option BalancerEnd) (w v : WorkerEnd L F M B C) → RoundStops why b c w v → WorkerStill readings w v × BalancerStill b c
  round_stops_still readings why None c w v h = absurd h
  round_stops_still readings why (Some b) None w v h = absurd h
  round_stops_still readings why (Some b) (Some c) w v h = ⊎_elim
      (λ (m : RoundFails why b c w v). (
        subst (WorkerStill readings w) (sym m.worker) (looked_still readings w v.desk (looked_on w.desk v.desk m.looked)),
        meter_goes b (telling_own w.station (noting w.now b)) c (m.read).same (own_goes b w),
      ))
      (λ (m : OrderFails why b c w v). (rounded_still readings w v (failed_rounded why b c w v m), made_goes b c w v.desk m.made))
      h

  pub round_stops_first : (span : Option Span) (why : Stop) (b c : Option BalancerEnd) (w v : WorkerEnd L F M B C) → RoundStops why b c w v → IfSome b (λ (x : BalancerEnd). x.first ≡ first_of span) → IfSome c (λ (x : BalancerEnd). x.first ≡ first_of (spanned w.now span))
  round_stops_first span why None c w v h f = absurd h
  round_stops_first span why (Some b) None w v h f = absurd h
  round_stops_first span why (Some b) (Some c) w v h f = ⊎_elim
      (λ (m : RoundFails why b c w v). ap (λ (x : BalancerEnd). x.first) (m.read).same ∙ own_first b w ∙ noted_first w.now b.first span f)
      (λ (m : OrderFails why b c w v). made_first b c w v.desk m.made ∙ noted_first w.now b.first span f)
      h
