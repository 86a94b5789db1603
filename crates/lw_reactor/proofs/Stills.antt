-- Whose worker it is stays, step by step.
use Rattle.std.proofs.Common.{◌≡◌, ℕ, ◌≤◌, List, [], ◌∷◌, ◌++◌, Option, None, Some, refl, sym, ap, subst, ◌∙◌, le_refl, append_assoc, arith}
use Rattle.std.proofs.lemmas.List.{append-nil}
use Rattle.lw_base.specs.Outside.{Continues}
use Rattle.lw_thread.specs.Runs.{RunId}
use Rattle.lw_event.specs.Desks.{Desk}
use Rattle.lw_event.specs.Desks as desks
use Rattle.lw_event.specs.Sleepers.{SleeperEnd}
use Rattle.lw_rounds.specs.Rounds.{BalancerEnd}
use Rattle.lw_station.proofs.Steps.{same_still, still_both}
use Rattle.lw_reactor.specs.Workers.{IsWorkerOf, Reads, ReadsOnce, WorkerEnd, with_sent}
use Rattle.lw_reactor.specs.Reactors.{IsGoing, IsReactorOf, ReadingsGoOn}
use Rattle.lw_reactor.proofs.Sending.{SentOn, station_sent}
use Rattle.lw_reactor.proofs.Rounded.{balances_later}

-- ---- readings

pub readings_same : (o : Option (List ℕ)) → ReadingsGoOn o o
readings_same None = tt
readings_same (Some told) = (told, [], refl, sym (append-nil told))

pub readings_one : (before after : Option (List ℕ)) (reading : ℕ) → Continues before reading after → ReadingsGoOn before after
readings_one before None reading h = tt
readings_one before (Some after) reading h = (h.0, reading ∷ [], h.1, h.2)

pub readings_both : (a b c : Option (List ℕ)) → ReadingsGoOn a b → ReadingsGoOn b c → ReadingsGoOn a c
readings_both a b None g h = tt
readings_both a b (Some after) g h =
    let one : ReadingsGoOn a (Some h.0) = subst (ReadingsGoOn a) h.2 g in
    (one.0, one.1 ++ h.1, one.2, h.3 ∙ ap (λ (xs : List ℕ). xs ++ h.1) one.3 ∙ append_assoc one.0 one.1 h.1)

-- a reading is never below the one before
pub reads_now : {C : Type 0} (readings : C → Option (List ℕ)) (c d : C) (n m : ℕ) → Reads readings c n d m → n ≤ m
reads_now readings c d n m r = let e = r.greatest in omega arith

module _ {L F M B C : Type 0} (readings : C → Option (List ℕ)) where
  -- whose worker it is stays: its number, the event rings and the places. Its readings go on and never back.
  pub record WorkerStill (old new : WorkerEnd L F M B C) : Type 0 where
    pub number : new.station.number ≡ old.station.number
    pub events : desks.IsStill old.station.events new.station.events
    pub desk : new.desk.places ≡ old.desk.places
    pub now : old.now ≤ new.now
    pub clock : ReadingsGoOn (readings old.clock) (readings new.clock)

  pub worker_same : (w v : WorkerEnd L F M B C) → v ≡ w → WorkerStill w v
  worker_same w v e = subst (WorkerStill w) (sym e) (record { number = refl; events = same_still w.station.events; desk = refl; now = le_refl w.now; clock = readings_same (readings w.clock) })

  pub worker_both : (w v u : WorkerEnd L F M B C) → WorkerStill w v → WorkerStill v u → WorkerStill w u
  worker_both w v u a b = record {
    number = b.number ∙ a.number;
    events = still_both w.station.events v.station.events u.station.events a.events b.events;
    desk = b.desk ∙ a.desk;
    now = (let one = a.now in let two = b.now in omega arith);
    clock = readings_both (readings w.clock) (readings v.clock) (readings u.clock) a.clock b.clock;
  }

  pub reads_still : (w v : WorkerEnd L F M B C) → ReadsOnce readings w v → WorkerStill w v
  reads_still w v r = record {
    number = ap (λ (x : WorkerEnd L F M B C). x.station.number) r.worker;
    events = subst (λ (x : WorkerEnd L F M B C). desks.IsStill w.station.events x.station.events) (sym r.worker) (same_still w.station.events);
    desk = ap (λ (x : WorkerEnd L F M B C). x.desk.places) r.worker;
    now = reads_now readings w.clock v.clock w.now v.now r.reads;
    clock = readings_one (readings w.clock) (readings v.clock) r.reads.reading r.reads.continues;
  }

  -- ---- a reading keeps what is so of a reactor

  pub reads_kept : (run : RunId F) (homes : List ℕ) (b : Option BalancerEnd) (w v : WorkerEnd L F M B C) → ReadsOnce readings w v → IsReactorOf run homes b w → IsReactorOf run homes b v
  reads_kept run homes b w v r k =
      let k2 = k.worker in record {
        its_homes = k.its_homes;
        worker = subst (IsWorkerOf run homes) (sym r.worker) (record { station = k2.station; desk = k2.desk; retired = k2.retired; few = k2.few; remains = k2.remains });
        balancer = balances_later run w.now v.now b (reads_now readings w.clock v.clock w.now v.now r.reads) k.balancer;
      }

  pub reads_go : (homes : List ℕ) (b : Option BalancerEnd) (w v : WorkerEnd L F M B C) → ReadsOnce readings w v → IsGoing homes b w → IsGoing homes b v
  reads_go homes b w v r g = subst (IsGoing homes b) (sym r.worker) (record { list = g.list; no_batch = g.no_batch; none_told = g.none_told })

module _ {L F M B C : Type 0} where
  -- ---- what was sent keeps it

  pub worker_sent : (run : RunId F) (homes : List ℕ) (w : WorkerEnd L F M B C) (e : Desk B M L F) (z : SleeperEnd) → SentOn w.station.events e w.station.sleeper z → IsWorkerOf run homes w → IsWorkerOf run homes (with_sent e z w)
  worker_sent run homes w e z on k = record { station = station_sent run homes w.station e z on k.station; desk = k.desk; retired = k.retired; few = k.few; remains = k.remains }

  pub sent_worker_still : (readings : C → Option (List ℕ)) (w : WorkerEnd L F M B C) (e : Desk B M L F) (z : SleeperEnd) → SentOn w.station.events e w.station.sleeper z → WorkerStill readings w (with_sent e z w)
  sent_worker_still readings w e z on = record { number = refl; events = on.still; desk = refl; now = le_refl w.now; clock = readings_same (readings w.clock) }
