-- What a turn keeps.
use Rattle.std.proofs.Common.{◌≡◌, ℕ, ◌≤◌, Bool, true, false, List, length, Option, All, refl, sym, ap, subst, ◌∙◌, ⊎_elim, le_refl}
use Rattle.std.specs.Prelude.{IfSome}
use Rattle.std.proofs.lemmas.List.{length-map}
use Rattle.lw_thread.specs.declared.stop.Polled.{Polled}
use Rattle.lw_thread.specs.declared.stop.Stop.{Stop as Cause}
use Rattle.lw_thread.specs.Runs.{RunId}
use Rattle.lw_thread.specs.Threads.{Thread}
use Rattle.lw_place.specs.PlaceSeats.{DeskEnd}
use Rattle.lw_event.specs.Sleepers.{SleeperEnd, once_more}
use Rattle.lw_event.specs.Desks as desks
use Rattle.lw_rounds.specs.Rounds.{BalancerEnd}
use Rattle.lw_station.specs.declared.stop.Stop.{Stop}
use Rattle.lw_station.specs.declared.stop.Turned.{Turned}
use Rattle.lw_station.specs.declared.stop.Turned.TheVariants as turned
use Rattle.lw_station.specs.Stations.{IsStationOf, StationEnd}
use Rattle.lw_station.specs.Handling.{HandlesAll, HandlingStops}
use Rattle.lw_station.proofs.Keeps.{stop_kept}
use Rattle.lw_station.proofs.Steps.{same_still}
use Rattle.lw_station.proofs.Turning.{some_go, some_kept, some_still, stop_still}
use Rattle.lw_reactor.specs.declared.reactor.Span.{Span}
use Rattle.lw_reactor.specs.Workers.{AreHomes, HasEnded, IsWorkerOf, WorkerEnd, all_woken, slept}
use Rattle.lw_reactor.specs.Reactors.{BalancerStill, BalancesRun, IsGoing, IsKept, IsReactorOf, ReactorEnd, ReactorStill, first_of}
use Rattle.lw_reactor.specs.Turns.{EventsStop, HandlesEvents, Looks, Steps, StepsStop, StopsAtEvents, StopsAtPolls, Turns, TurnStops, halted, seen_done, seen_halt, spanned}
use Rattle.lw_reactor.proofs.Stills.{WorkerStill, readings_same, reads_go, reads_kept, reads_still, worker_both}
use Rattle.lw_reactor.proofs.Rounded.{balances_later}
use Rattle.lw_reactor.proofs.Balancing.{balances_first, balances_go, balances_kept, balances_none_due, balances_still, round_stops_first, round_stops_kept, round_stops_still}
use Rattle.lw_reactor.proofs.Polled.{from_batch, from_goes, from_kept, from_still, polling_stops_kept, polling_stops_still}

true_false : true ≡ false → ⊥
true_false e = cc

module _ {L F M B : Type 0} where
  handled_station : (run : RunId F) (homes : List ℕ) (s n : StationEnd L F M B) → HandlesAll s n → IsStationOf run homes s → IsStationOf run homes n
  handled_station run homes s n h k = some_kept run homes h.batch h.batch s h.mid n h.taken h.handled k

  handled_number : (s n : StationEnd L F M B) → HandlesAll s n → (n.number ≡ s.number) × desks.IsStill s.events n.events
  handled_number s n h = some_still h.batch h.batch s h.mid n h.taken h.handled

  stopped_still : (why : Stop) (s n : StationEnd L F M B) → HandlingStops why s n → (n.number ≡ s.number) × desks.IsStill s.events n.events
  stopped_still why s n h = ⊎_elim
      (λ a. (ap (λ (x : StationEnd L F M B). x.number) a.1, subst (λ (x : StationEnd L F M B). desks.IsStill s.events x.events) (sym a.1) (same_still s.events)))
      (λ b. stop_still b.batch b.done b.event why s b.mid b.before n b.taken b.handled b.stopped)
      h

  stopped_station : (run : RunId F) (homes : List ℕ) (why : Stop) (s n : StationEnd L F M B) → HandlingStops why s n → IsStationOf run homes s → IsStationOf run homes n
  stopped_station run homes why s n h k = ⊎_elim
      (λ a. subst (IsStationOf run homes) (sym a.1) k)
      (λ b. stop_kept run homes b.event why b.before n b.stopped (some_kept run homes b.batch b.done s b.mid b.before b.taken b.handled k))
      h

module _ {L F M B C : Type 0} where
  -- ---- the events

  -- the worker with another station of the same number
  with_kept : (run : RunId F) (homes : List ℕ) (w : WorkerEnd L F M B C) (s : StationEnd L F M B) → s.number ≡ w.station.number → IsStationOf run homes s → IsWorkerOf run homes w → IsWorkerOf run homes (record w { station = s })
  with_kept run homes w s number is k = record {
    station = is;
    desk = k.desk;
    retired = k.retired;
    few = k.few;
    remains = subst (λ n. All (HasEnded run n homes) w.remains) (sym number) k.remains;
  }

  pub events_kept : (run : RunId F) (homes : List ℕ) (b : Option BalancerEnd) (count : ℕ) (w v : WorkerEnd L F M B C) → HandlesEvents count w v → IsReactorOf run homes b w → IsReactorOf run homes b v
  events_kept run homes b count w v h k = subst (IsReactorOf run homes b) (sym h.worker) (record {
    its_homes = k.its_homes;
    worker = with_kept run homes w v.station (handled_number w.station v.station h.handled).0 (handled_station run homes w.station v.station h.handled (k.worker).station) k.worker;
    balancer = k.balancer;
  })

  pub events_go : (run : RunId F) (homes : List ℕ) (b : Option BalancerEnd) (count : ℕ) (w v : WorkerEnd L F M B C) → HandlesEvents count w v → IsReactorOf run homes b w → IsGoing homes b w → IsGoing homes b v
  events_go run homes b count w v h k g =
      let a = h.handled in
      record {
        list = some_go run homes a.batch a.batch w.station a.mid v.station a.taken a.handled (k.worker).station g.list;
        no_batch = h.none_left;
        none_told = g.none_told;
      }

  still_with : (readings : C → Option (List ℕ)) (w v : WorkerEnd L F M B C) → v ≡ record w { station = v.station } → (v.station.number ≡ w.station.number) × desks.IsStill w.station.events v.station.events → WorkerStill readings w v
  still_with readings w v e h = subst (WorkerStill readings w) (sym e) (record { number = h.0; events = h.1; desk = refl; now = le_refl w.now; clock = readings_same (readings w.clock) })

  events_still : (readings : C → Option (List ℕ)) (count : ℕ) (w v : WorkerEnd L F M B C) → HandlesEvents count w v → WorkerStill readings w v
  events_still readings count w v h = still_with readings w v h.worker (handled_number w.station v.station h.handled)

  events_stop_kept : (run : RunId F) (homes : List ℕ) (b : Option BalancerEnd) (why : Stop) (w v : WorkerEnd L F M B C) → EventsStop why w v → IsReactorOf run homes b w → IsReactorOf run homes b v
  events_stop_kept run homes b why w v h k = subst (IsReactorOf run homes b) (sym h.worker) (record {
    its_homes = k.its_homes;
    worker = with_kept run homes w v.station (stopped_still why w.station v.station h.stopped).0 (stopped_station run homes why w.station v.station h.stopped (k.worker).station) k.worker;
    balancer = k.balancer;
  })

  events_stop_still : (readings : C → Option (List ℕ)) (why : Stop) (w v : WorkerEnd L F M B C) → EventsStop why w v → WorkerStill readings w v
  events_stop_still readings why w v h = still_with readings w v h.worker (stopped_still why w.station v.station h.stopped)

  -- ---- the look

  -- another desk of the same places, which has retired as many, and a sleeper that wakes as many
  desk_kept : (run : RunId F) (homes : List ℕ) (b : Option BalancerEnd) (w : WorkerEnd L F M B C) (d : DeskEnd) (z : SleeperEnd) → d.places ≡ w.desk.places → d.retired ≡ w.desk.retired → length z.wakers ≡ length w.station.sleeper.wakers → IsReactorOf run homes b w → IsReactorOf run homes b (record w { desk = d; station = record w.station { sleeper = z } })
  desk_kept run homes b w d z places retired wakers k =
      let x = k.worker in
      let s = x.station in
      record {
        its_homes = k.its_homes;
        worker = record {
          station = record { family = s.family; events_number = s.events_number; reactors = s.reactors; own = s.own; wakers = wakers ∙ s.wakers; list = s.list; held = s.held };
          desk = places ∙ x.desk;
          retired = retired ∙ x.retired;
          few = x.few;
          remains = x.remains;
        };
        balancer = k.balancer;
      }

  desk_goes : (homes : List ℕ) (b : Option BalancerEnd) (w : WorkerEnd L F M B C) (d : DeskEnd) (z : SleeperEnd) → IsGoing homes b w → IsGoing homes b (record w { desk = d; station = record w.station { sleeper = z } })
  desk_goes homes b w d z g = record { list = g.list; no_batch = g.no_batch; none_told = g.none_told }

  desk_still : (readings : C → Option (List ℕ)) (w : WorkerEnd L F M B C) (d : DeskEnd) (z : SleeperEnd) → d.places ≡ w.desk.places → WorkerStill readings w (record w { desk = d; station = record w.station { sleeper = z } })
  desk_still readings w d z places = record { number = refl; events = same_still w.station.events; desk = places; now = le_refl w.now; clock = readings_same (readings w.clock) }

  looks_kept : (run : RunId F) (homes : List ℕ) (b : Option BalancerEnd) (t : Turned) (threads : ℕ) (w v : WorkerEnd L F M B C) → Looks t threads w v → IsReactorOf run homes b w → IsReactorOf run homes b v
  looks_kept run homes b turned.Finished threads w v h k = subst (IsReactorOf run homes b) (sym h)
      (desk_kept run homes b w (seen_done threads w).desk (all_woken w).station.sleeper refl refl (length-map w.station.sleeper.wakers once_more) k)
  looks_kept run homes b turned.Halted threads w v h k = subst (IsReactorOf run homes b) (sym h.2) (desk_kept run homes b w (seen_halt 1 (seen_done h.0 w)).desk w.station.sleeper refl refl refl k)
  looks_kept run homes b turned.Going threads w v h k = subst (IsReactorOf run homes b) (sym h.2) (desk_kept run homes b w (seen_halt 0 (seen_done h.0 w)).desk w.station.sleeper refl refl refl k)

  looks_go : (homes : List ℕ) (b : Option BalancerEnd) (t : Turned) (threads : ℕ) (w v : WorkerEnd L F M B C) → Looks t threads w v → IsGoing homes b w → IsGoing homes b v
  looks_go homes b turned.Finished threads w v h g = subst (IsGoing homes b) (sym h) (desk_goes homes b w (seen_done threads w).desk (all_woken w).station.sleeper g)
  looks_go homes b turned.Halted threads w v h g = subst (IsGoing homes b) (sym h.2) (desk_goes homes b w (seen_halt 1 (seen_done h.0 w)).desk w.station.sleeper g)
  looks_go homes b turned.Going threads w v h g = subst (IsGoing homes b) (sym h.2) (desk_goes homes b w (seen_halt 0 (seen_done h.0 w)).desk w.station.sleeper g)

  looks_still : (readings : C → Option (List ℕ)) (t : Turned) (threads : ℕ) (w v : WorkerEnd L F M B C) → Looks t threads w v → WorkerStill readings w v
  looks_still readings turned.Finished threads w v h = subst (WorkerStill readings w) (sym h) (desk_still readings w (seen_done threads w).desk (all_woken w).station.sleeper refl)
  looks_still readings turned.Halted threads w v h = subst (WorkerStill readings w) (sym h.2) (desk_still readings w (seen_halt 1 (seen_done h.0 w)).desk w.station.sleeper refl)
  looks_still readings turned.Going threads w v h = subst (WorkerStill readings w) (sym h.2) (desk_still readings w (seen_halt 0 (seen_done h.0 w)).desk w.station.sleeper refl)

  -- ---- the halt

  halted_kept : (run : RunId F) (homes : List ℕ) (b : Option BalancerEnd) (w : WorkerEnd L F M B C) → IsReactorOf run homes b w → IsReactorOf run homes b (halted w)
  halted_kept run homes b w k = desk_kept run homes b w (record w.desk { halted = 1 }) (all_woken w).station.sleeper refl refl (length-map w.station.sleeper.wakers once_more) k

  halted_still : (readings : C → Option (List ℕ)) (w : WorkerEnd L F M B C) → WorkerStill readings w (halted w)
  halted_still readings w = desk_still readings w (record w.desk { halted = 1 }) (all_woken w).station.sleeper refl

  -- ---- what is so of the worker and of the balancer once the worker is a later one

  later_kept : (run : RunId F) (homes : List ℕ) (b : Option BalancerEnd) (n : ℕ) (w v : WorkerEnd L F M B C) → n ≤ v.now → AreHomes run homes → IfSome b (BalancesRun run n) → IsWorkerOf run homes v → IsReactorOf run homes b v
  later_kept run homes b n w v later h r k = record { its_homes = h; worker = k; balancer = balances_later run n v.now b later r }

module _ {L F M B C : Type 0} (readings : C → Option (List ℕ)) (polls : ℕ → Thread L F M B → Thread L F M B → Polled → Type 0) (ends : B → Bool) where
  steps_kept : (run : RunId F) (t : Turned) (homes : List ℕ) (count : ℕ) (b c : Option BalancerEnd) (w v : WorkerEnd L F M B C) → Steps readings polls ends t homes count b c w v → IsReactorOf run homes b w → IsGoing homes b w → IsReactorOf run homes c v × IsGoing homes c v
  steps_kept run t homes count b c w v h k g =
      let k1 = balances_kept run homes b c w h.balanced h.balances k in
      let g1 = balances_go homes b c w h.balanced h.balances g in
      let k2 = events_kept run homes c count h.balanced h.handled h.handles k1 in
      let g2 = events_go run homes c count h.balanced h.handled h.handles k1 g1 in
      let es = (h.polls_all).ended in
      let from = (h.polls_all).polled in
      let still = from_still readings polls ends homes 0 es h.handled h.polled from in
      let k3 = later_kept run homes c (h.handled).now h.handled h.polled still.now k2.its_homes k2.balancer (from_kept readings polls ends run homes 0 es h.handled h.polled from g2.list k2.worker) in
      let g3 : IsGoing homes c h.polled = record { list = from_goes readings polls ends homes 0 es h.handled h.polled from g2.list; no_batch = from_batch readings polls ends homes 0 es h.handled h.polled from ∙ g2.no_batch; none_told = g2.none_told } in
      (looks_kept run homes c t (length homes) h.polled v h.looks k3, looks_go homes c t (length homes) h.polled v h.looks g3)

  steps_still : (t : Turned) (homes : List ℕ) (count : ℕ) (b c : Option BalancerEnd) (w v : WorkerEnd L F M B C) → Steps readings polls ends t homes count b c w v → WorkerStill readings w v × BalancerStill b c
  steps_still t homes count b c w v h =
      let one = balances_still readings b c w h.balanced h.balances in
      let two = worker_both readings w h.balanced h.handled one.0 (events_still readings count h.balanced h.handled h.handles) in
      let three = worker_both readings w h.handled h.polled two (from_still readings polls ends homes 0 (h.polls_all).ended h.handled h.polled (h.polls_all).polled) in
      (worker_both readings w h.polled v three (looks_still readings t (length homes) h.polled v h.looks), one.1)

  -- a reactor keeps it through a turn
  pub turns_kept : (t : Turned) (r s : ReactorEnd L F M B C) → r.stopped ≡ false → Turns readings polls ends t r s → IsKept r → IsKept s
  turns_kept t r s going h k =
      let begun = h.begun in
      let now = begun.now in
      let k1 = reads_kept readings k.run r.homes r.balancer r.worker begun h.begins k.parts in
      let g1 = reads_go readings r.homes r.balancer r.worker begun h.begins (k.going going) in
      let kept = steps_kept k.run t r.homes s.took r.balancer s.balancer begun s.worker h.steps k1 g1 in
      let first = balances_first r.span r.balancer s.balancer begun (h.steps).balanced (h.steps).balances k.first in
      let due = balances_none_due k.run r.span r.balancer s.balancer begun (h.steps).balanced (h.steps).balances k1.balancer in
      subst IsKept (sym h.reactor) (record { run = k.run; parts = kept.0; first = first; going = λ same. kept.1; none_due = λ same. due })

  pub turns_still : (t : Turned) (r s : ReactorEnd L F M B C) → Turns readings polls ends t r s → ReactorStill readings r s
  turns_still t r s h =
      let begins = reads_still readings r.worker h.begun h.begins in
      let steps = steps_still t r.homes s.took r.balancer s.balancer h.begun s.worker h.steps in
      let both = worker_both readings r.worker h.begun s.worker begins steps.0 in
      record { number = both.number; homes = ap (λ (x : ReactorEnd L F M B C). x.homes) h.reactor; events = both.events; desk = both.desk; now = both.now; clock = both.clock; rounds = steps.1 }

module _ {L F M B C : Type 0} (readings : C → Option (List ℕ)) (polls : ℕ → Thread L F M B → Thread L F M B → Polled → Type 0) (halts : ℕ → Thread L F M B → Thread L F M B → Cause → Type 0) (ends : B → Bool) where
  stop_kept_all : (run : RunId F) (why : Stop) (homes : List ℕ) (took count : ℕ) (b c : Option BalancerEnd) (w v : WorkerEnd L F M B C) → StepsStop readings polls halts ends why homes took count b c w v → IsReactorOf run homes b w → IsGoing homes b w → IsReactorOf run homes c v
  stop_kept_all run why homes took count b c w v h k g = ⊎_elim
      (λ x. ⊎_elim (λ a. round_stops_kept run homes why b c w v a.0 k)
      (λ (e : StopsAtEvents readings polls halts ends why took count b c w v). events_stop_kept run homes c why e.balanced v e.events (balances_kept run homes b c w e.balanced e.balances k)) x)
      (λ (p : StopsAtPolls readings polls halts ends why homes count b c w v).
      (let k1 = balances_kept run homes b c w p.balanced p.balances k in
      let g1 = balances_go homes b c w p.balanced p.balances g in
      let k2 = events_kept run homes c count p.balanced p.handled p.handles k1 in
      let g2 = events_go run homes c count p.balanced p.handled p.handles k1 g1 in
      let still = polling_stops_still readings polls halts ends homes why p.handled v p.polling in
      later_kept run homes c (p.handled).now p.handled v still.now k2.its_homes k2.balancer (polling_stops_kept readings polls halts ends run homes why p.handled v p.polling g2.list k2.worker)))
      h

  stop_still_all : (why : Stop) (homes : List ℕ) (took count : ℕ) (b c : Option BalancerEnd) (w v : WorkerEnd L F M B C) → StepsStop readings polls halts ends why homes took count b c w v → WorkerStill readings w v × BalancerStill b c
  stop_still_all why homes took count b c w v h = ⊎_elim
      (λ x. ⊎_elim (λ a. round_stops_still readings why b c w v a.0)
      (λ (e : StopsAtEvents readings polls halts ends why took count b c w v).
      (let one = balances_still readings b c w e.balanced e.balances in
      (worker_both readings w e.balanced v one.0 (events_stop_still readings why e.balanced v e.events), one.1))) x)
      (λ (p : StopsAtPolls readings polls halts ends why homes count b c w v).
      (let one = balances_still readings b c w p.balanced p.balances in
      let two = worker_both readings w p.balanced p.handled one.0 (events_still readings count p.balanced p.handled p.handles) in
      (worker_both readings w p.handled v two (polling_stops_still readings polls halts ends homes why p.handled v p.polling), one.1)))
      h

  stop_first : (span : Option Span) (why : Stop) (homes : List ℕ) (took count : ℕ) (b c : Option BalancerEnd) (w v : WorkerEnd L F M B C) → StepsStop readings polls halts ends why homes took count b c w v → IfSome b (λ (x : BalancerEnd). x.first ≡ first_of span) → IfSome c (λ (x : BalancerEnd). x.first ≡ first_of (spanned w.now span))
  stop_first span why homes took count b c w v h f = ⊎_elim
      (λ x. ⊎_elim (λ a. round_stops_first span why b c w v a.0 f)
      (λ (e : StopsAtEvents readings polls halts ends why took count b c w v). balances_first span b c w e.balanced e.balances f) x)
      (λ (p : StopsAtPolls readings polls halts ends why homes count b c w v). balances_first span b c w p.balanced p.balances f)
      h

  -- and through one that stopped
  pub turn_stops_kept : (why : Stop) (r s : ReactorEnd L F M B C) → r.stopped ≡ false → TurnStops readings polls halts ends why r s → IsKept r → IsKept s
  turn_stops_kept why r s going h k =
      let begun = h.begun in
      let k1 = reads_kept readings k.run r.homes r.balancer r.worker begun h.begins k.parts in
      let g1 = reads_go readings r.homes r.balancer r.worker begun h.begins (k.going going) in
      let k2 = stop_kept_all k.run why r.homes r.took s.took r.balancer s.balancer begun h.last h.stops k1 g1 in
      let first = stop_first r.span why r.homes r.took s.took r.balancer s.balancer begun h.last h.stops k.first in
      subst IsKept (sym h.reactor) (record { run = k.run; parts = halted_kept k.run r.homes s.balancer h.last k2; first = first; going = λ same. absurd (true_false same); none_due = λ same. absurd (true_false same) })

  pub turn_stops_still : (why : Stop) (r s : ReactorEnd L F M B C) → TurnStops readings polls halts ends why r s → ReactorStill readings r s
  turn_stops_still why r s h =
      let begins = reads_still readings r.worker h.begun h.begins in
      let stops = stop_still_all why r.homes r.took s.took r.balancer s.balancer h.begun h.last h.stops in
      let both = worker_both readings r.worker h.begun h.last begins stops.0 in
      let all = worker_both readings r.worker h.last (halted h.last) both (halted_still readings h.last) in
      subst (ReactorStill readings r) (sym h.reactor) (record { number = all.number; homes = refl; events = all.events; desk = all.desk; now = all.now; clock = all.clock; rounds = stops.1 })

module _ {L F M B C : Type 0} where
  -- a reactor keeps it while it sleeps
  pub slept_kept : (r : ReactorEnd L F M B C) (w : WorkerEnd L F M B C) → w ≡ slept r.worker → IsKept r → IsKept (record r { worker = w })
  slept_kept r w e k =
      let z = (slept r.worker).station.sleeper in
      subst (λ (x : WorkerEnd L F M B C). IsKept (record r { worker = x })) (sym e) (record {
        run = k.run;
        parts = desk_kept k.run r.homes r.balancer r.worker r.worker.desk z refl refl refl k.parts;
        first = k.first;
        going = λ same. desk_goes r.homes r.balancer r.worker r.worker.desk z (k.going same);
        none_due = k.none_due;
      })
