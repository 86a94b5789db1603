-- A round, as the worker makes it.
use Rattle.std.proofs.Common.{◌≡◌, ℕ, ◌<◌, List, length, All, Some, refl, sym, ap, subst, ◌∙◌}
use Rattle.std.proofs.lemmas.List.Elements.{All-weaker}
use Rattle.lw_place.specs.PlaceSeats.{DeskEnd}
use Rattle.lw_thread.specs.Runs.{RunId}
use Rattle.lw_thread.specs.Threads.{Thread}
use Rattle.lw_rounds.specs.Measures.{HasOnlyLooked}
use Rattle.lw_rounds.specs.Rounds.{BalancerEnd, HasOnlyRead, IsDue, Makes}
use Rattle.lw_station.specs.declared.stop.Stop.{Stop}
use Rattle.lw_station.specs.declared.stop.Stop.TheVariants as stop
use Rattle.lw_station.specs.Stations.{Holds, Stands, StationEnd}
use Rattle.lw_reactor.specs.Workers.{WorkerEnd}
use Rattle.lw_reactor.specs.Reactors.{BalancesRun, IsReactorOf}
use Rattle.lw_reactor.specs.Rounding.{MakesNone, MakesRound, OrderFails, OrdersAll, OrdersSome, RoundFails, noting, telling, telling_own}
use Rattle.lw_reactor.proofs.Rounded.{told_same}
use Rattle.lw_reactor.proofs.Balancing.{own_due, own_runs}

module _ {L F M B : Type 0} where
  -- as many masks as before
  pub told_masks : (ts : List (Thread L F M B)) (b c : BalancerEnd) → c ≡ telling ts b → length c.masks ≡ length b.masks
  told_masks ts b c e = ap (λ (x : BalancerEnd). length x.masks) (e ∙ told_same ts b)

  pub told_own : (s o : StationEnd L F M B) (ts us : List (Thread L F M B)) (b c d : BalancerEnd) → s ≡ o → ts ≡ s.list → us ≡ s.held → c ≡ telling ts b → d ≡ telling us c → d ≡ telling_own o b
  told_own s o ts us b c d is list held one two = two ∙ (λ i. telling (held i) ((one ∙ ap (λ (xs : List (Thread L F M B)). telling xs b) list) i)) ∙ ap (λ (x : StationEnd L F M B). telling_own x b) is

module _ {L F M B C : Type 0} where
  pub list_below : (run : RunId F) (homes : List ℕ) (b x : BalancerEnd) (v o : WorkerEnd L F M B C) → v ≡ o → IsReactorOf run homes (Some b) o → x ≡ noting v.now b → All (λ (t : Thread L F M B). t.seat.thread < length x.masks) v.station.list
  list_below run homes b x v o is k noted =
      let masks : length run.rings ≡ length x.masks = (k.its_homes).rings ∙ sym (k.balancer).threads ∙ ap (λ (y : BalancerEnd). length y.masks) (sym noted) in
      subst (λ (y : WorkerEnd L F M B C). All (λ (t : Thread L F M B). t.seat.thread < length x.masks) y.station.list) (sym is)
      (All-weaker (Stands run o.station.number) (λ (t : Thread L F M B). t.seat.thread < length x.masks) (λ t s. subst (λ n. t.seat.thread < n) masks (s.of_run).number) o.station.list ((k.worker).station).list)

  pub held_below : (run : RunId F) (homes : List ℕ) (b x : BalancerEnd) (v o : WorkerEnd L F M B C) → v ≡ o → IsReactorOf run homes (Some b) o → x ≡ noting v.now b → All (λ (t : Thread L F M B). t.seat.thread < length x.masks) v.station.held
  held_below run homes b x v o is k noted =
      let masks : length run.rings ≡ length x.masks = (k.its_homes).rings ∙ sym (k.balancer).threads ∙ ap (λ (y : BalancerEnd). length y.masks) (sym noted) in
      subst (λ (y : WorkerEnd L F M B C). All (λ (t : Thread L F M B). t.seat.thread < length x.masks) y.station.held) (sym is)
      (All-weaker (Holds run o.station.number homes) (λ (t : Thread L F M B). t.seat.thread < length x.masks) (λ t s. subst (λ n. t.seat.thread < n) masks (s.of_run).number) o.station.held ((k.worker).station).held)

  -- the balancer once the reading is noted and the sums are told
  pub record IsTold (b y : BalancerEnd) (v : WorkerEnd L F M B C) : Type 0 where
    pub due : IsDue v.now (noting v.now b)
    pub told : y ≡ telling_own v.station (noting v.now b)

  pub told_is : (b x y : BalancerEnd) (v o : WorkerEnd L F M B C) → v ≡ o → x ≡ noting v.now b → IsDue v.now x → y ≡ telling_own v.station x → IsTold b y v
  told_is b x y v o is noted due told = record { due = subst (IsDue v.now) noted due; told = told ∙ ap (λ (z : BalancerEnd). telling_own v.station z) noted }

  pub due_told : (b y : BalancerEnd) (v : WorkerEnd L F M B C) → IsTold b y v → IsDue v.now y
  due_told b y v t = subst (IsDue v.now) (sym t.told) (own_due b v t.due)

  runs_told : (run : RunId F) (homes : List ℕ) (b y : BalancerEnd) (v o : WorkerEnd L F M B C) → v ≡ o → IsReactorOf run homes (Some b) o → IsTold b y v → BalancesRun run v.now y
  runs_told run homes b y v o is k t = subst (BalancesRun run v.now) (sym t.told) (own_runs run b v (subst (λ (w : WorkerEnd L F M B C). BalancesRun run w.now b) (sym is) k.balancer))

  pub desk_threads : (run : RunId F) (homes : List ℕ) (b y : BalancerEnd) (v o : WorkerEnd L F M B C) → v ≡ o → IsReactorOf run homes (Some b) o → IsTold b y v → v.desk.places.threads ≡ length y.masks
  desk_threads run homes b y v o is k t = ap (λ (w : WorkerEnd L F M B C). w.desk.places.threads) is ∙ ap (λ p. p.threads) (k.worker).desk ∙ sym (runs_told run homes b y v o is k t).threads

  pub desk_reactors : (run : RunId F) (homes : List ℕ) (b y : BalancerEnd) (v o : WorkerEnd L F M B C) → v ≡ o → IsReactorOf run homes (Some b) o → IsTold b y v → v.desk.places.reactors ≡ y.reactors
  desk_reactors run homes b y v o is k t = ap (λ (w : WorkerEnd L F M B C). w.desk.places.reactors) is ∙ ap (λ p. p.reactors) (k.worker).desk ∙ sym (runs_told run homes b y v o is k t).reactors

  pub ends_count : (run : RunId F) (homes : List ℕ) (b y c : BalancerEnd) (v o : WorkerEnd L F M B C) (e : DeskEnd) → v ≡ o → IsReactorOf run homes (Some b) o → IsTold b y v → Makes v.now y c v.desk e → length v.station.events.ends ≡ c.reactors
  ends_count run homes b y c v o e is k t m = ap (λ (w : WorkerEnd L F M B C). length w.station.events.ends) is ∙ ((k.worker).station).reactors ∙ sym (runs_told run homes b y v o is k t).reactors ∙ sym (ap (λ (x : BalancerEnd). x.reactors) m.made)

  pub wakers_count : (run : RunId F) (homes : List ℕ) (b y c : BalancerEnd) (v o : WorkerEnd L F M B C) (e : DeskEnd) → v ≡ o → IsReactorOf run homes (Some b) o → IsTold b y v → Makes v.now y c v.desk e → length v.station.sleeper.wakers ≡ c.reactors
  wakers_count run homes b y c v o e is k t m = ap (λ (w : WorkerEnd L F M B C). length w.station.sleeper.wakers) is ∙ ((k.worker).station).wakers ∙ sym (runs_told run homes b y v o is k t).reactors ∙ sym (ap (λ (x : BalancerEnd). x.reactors) m.made)

  pub round_is : (b y c : BalancerEnd) (v o : WorkerEnd L F M B C) (s : StationEnd L F M B) (e : DeskEnd) → v ≡ o → IsTold b y v → Makes v.now y c v.desk e → OrdersAll c v.station.events s.events v.station.sleeper s.sleeper → s ≡ record v.station { events = s.events; sleeper = s.sleeper }
      → MakesRound b c o (record v { station = s; desk = e })
  round_is b y c v o s e is t m all sent = subst (λ (w : WorkerEnd L F M B C). MakesRound b c w (record v { station = s; desk = e })) is
      (record { due = t.due; made = subst (λ (z : BalancerEnd). Makes v.now z c v.desk e) t.told m; ordered = all; worker = λ i. record v { station = sent i; desk = e } })

  pub order_fails_is : (why : Stop) (b y c : BalancerEnd) (v o : WorkerEnd L F M B C) (s : StationEnd L F M B) (e : DeskEnd) → v ≡ o → IsTold b y v → Makes v.now y c v.desk e → OrdersSome c why v.station.events s.events v.station.sleeper s.sleeper → s ≡ record v.station { events = s.events; sleeper = s.sleeper }
      → OrderFails why b c o (record v { station = s; desk = e })
  order_fails_is why b y c v o s e is t m some sent = subst (λ (w : WorkerEnd L F M B C). OrderFails why b c w (record v { station = s; desk = e })) is
      (record { due = t.due; made = subst (λ (z : BalancerEnd). Makes v.now z c v.desk e) t.told m; ordered = some; worker = λ i. record v { station = sent i; desk = e } })

  pub round_fails_is : (b y c : BalancerEnd) (v o : WorkerEnd L F M B C) (e : DeskEnd) → v ≡ o → IsTold b y v → HasOnlyRead y c → HasOnlyLooked v.desk e → RoundFails stop.NoMemory b c o (record v { desk = e })
  round_fails_is b y c v o e is t read looked = subst (λ (w : WorkerEnd L F M B C). RoundFails stop.NoMemory b c w (record v { desk = e })) is
      (record { due = t.due; cause = refl; read = subst (λ (z : BalancerEnd). HasOnlyRead z c) t.told read; looked = looked; worker = refl })

  pub none_is : (b x : BalancerEnd) (v o : WorkerEnd L F M B C) → v ≡ o → x ≡ noting v.now b → (IsDue v.now x → ⊥) → MakesNone b x o v
  none_is b x v o is noted not_due = subst (λ (w : WorkerEnd L F M B C). MakesNone b x w v) is (record { not_due = λ d. not_due (subst (IsDue v.now) (sym noted) d); balancer = noted; worker = refl })
