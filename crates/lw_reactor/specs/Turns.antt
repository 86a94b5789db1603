-- One turn.
use Rattle.std.specs.Prelude.{◌≡◌, ◌≢◌, ◌⊎◌, ℕ, ◌+◌, Bool, true, List, [], length, Option, None, Some}
use Rattle.lw_thread.specs.declared.stop.Polled.{Polled}
use Rattle.lw_thread.specs.declared.stop.Stop.{Stop as Cause}
use Rattle.lw_thread.specs.Threads.{Thread}
use Rattle.lw_rounds.specs.Rounds.{BalancerEnd}
use Rattle.lw_station.specs.declared.stop.Stop.{Stop}
use Rattle.lw_station.specs.declared.stop.Turned.{Turned}
use Rattle.lw_station.specs.declared.stop.Turned.TheVariants as turned
use Rattle.lw_station.specs.Handling as handling
use Rattle.lw_reactor.specs.declared.reactor.Span.{Span}
use Rattle.lw_reactor.specs.Workers.{ReadsOnce, WorkerEnd, all_woken}
use Rattle.lw_reactor.specs.Reactors.{ReactorEnd}
use Rattle.lw_reactor.specs.Rounding.{Balances, RoundStops}
use Rattle.lw_reactor.specs.Polling.{PollsAll, PollingStops}

-- the span with this turn's first reading
abbrev pub spanned : ℕ → Option Span → Option Span
spanned now None = Some (record { first = now; last = now })
spanned now (Some s) = Some (record s { last = now })

module _ {L F M B C : Type 0} where
  -- one look at the count of retired threads found this
  abbrev pub seen_done : ℕ → WorkerEnd L F M B C → WorkerEnd L F M B C
  seen_done done w = record w { desk = record w.desk { looks = w.desk.looks + 1; done_seen = done } }

  -- one look at the halt word found this
  abbrev pub seen_halt : ℕ → WorkerEnd L F M B C → WorkerEnd L F M B C
  seen_halt halt w = record w { desk = record w.desk { looks = w.desk.looks + 1; halt_seen = halt } }

  -- What a look at the run found: that all threads have ended, exactly where as many were retired as there are; else that it was
  -- halted, exactly where the halt word says so; else that it goes on. Who finds all ended wakes all.
  abbrev pub Looks : Turned → ℕ → WorkerEnd L F M B C → WorkerEnd L F M B C → Type 0
  Looks turned.Finished threads old new = new ≡ all_woken (seen_done threads old)
  Looks turned.Halted threads old new = (done : ℕ) × (done ≢ threads) × (new ≡ seen_halt 1 (seen_done done old))
  Looks turned.Going threads old new = (done : ℕ) × (done ≢ threads) × (new ≡ seen_halt 0 (seen_done done old))

  -- the events of the turn were handled: so many
  pub record HandlesEvents (count : ℕ) (old new : WorkerEnd L F M B C) : Type 0 where
    pub handled : handling.HandlesAll old.station new.station
    pub counted : count ≡ length handled.batch
    pub none_left : new.station.events.batch ≡ []
    pub worker : new ≡ record old { station = new.station }

  -- the worker stopped at the events
  pub record EventsStop (why : Stop) (old new : WorkerEnd L F M B C) : Type 0 where
    pub stopped : handling.HandlingStops why old.station new.station
    pub worker : new ≡ record old { station = new.station }

  -- the run is halted, and all are woken
  abbrev pub halted : WorkerEnd L F M B C → WorkerEnd L F M B C
  halted w = all_woken (record w { desk = record w.desk { halted = 1 } })

module _ {L F M B C : Type 0} (readings : C → Option (List ℕ)) (polls : ℕ → Thread L F M B → Thread L F M B → Polled → Type 0) (ends : B → Bool) where
  -- the steps of a turn behind its first reading: a round where one is due, the events, the polls, a look
  pub record Steps (turned : Turned) (homes : List ℕ) (count : ℕ) (b c : Option BalancerEnd) (old new : WorkerEnd L F M B C) : Type 0 where
    pub balanced : WorkerEnd L F M B C
    pub handled : WorkerEnd L F M B C
    pub polled : WorkerEnd L F M B C
    pub balances : Balances b c old balanced
    pub handles : HandlesEvents count balanced handled
    pub polls_all : PollsAll readings polls ends homes handled polled
    pub looks : Looks turned (length homes) polled new

  -- a turn
  pub record Turns (turned : Turned) (old new : ReactorEnd L F M B C) : Type 0 where
    pub begun : WorkerEnd L F M B C
    pub begins : ReadsOnce readings old.worker begun
    pub steps : Steps turned old.homes new.took old.balancer new.balancer begun new.worker
    pub reactor : new ≡ record old { worker = new.worker; balancer = new.balancer; span = spanned begun.now old.span; took = new.took }

module _ {L F M B C : Type 0} (readings : C → Option (List ℕ)) (polls : ℕ → Thread L F M B → Thread L F M B → Polled → Type 0) (halts : ℕ → Thread L F M B → Thread L F M B → Cause → Type 0) (ends : B → Bool) where
  -- the steps stopped behind the round, at the events
  pub record StopsAtEvents (why : Stop) (took count : ℕ) (b c : Option BalancerEnd) (old new : WorkerEnd L F M B C) : Type 0 where
    pub balanced : WorkerEnd L F M B C
    pub balances : Balances b c old balanced
    pub events : EventsStop why balanced new
    pub same : count ≡ took

  -- behind the round and the events, at the polls
  pub record StopsAtPolls (why : Stop) (homes : List ℕ) (count : ℕ) (b c : Option BalancerEnd) (old new : WorkerEnd L F M B C) : Type 0 where
    pub balanced : WorkerEnd L F M B C
    pub handled : WorkerEnd L F M B C
    pub balances : Balances b c old balanced
    pub handles : HandlesEvents count balanced handled
    pub polling : PollingStops readings polls halts ends homes why handled new

  -- The steps of a turn that stopped: in the round, at the events, or at the polls. None behind that was made.
  abbrev pub StepsStop : Stop → List ℕ → ℕ → ℕ → Option BalancerEnd → Option BalancerEnd → WorkerEnd L F M B C → WorkerEnd L F M B C → Type 0
  StepsStop why homes took count b c old new =
      ((RoundStops why b c old new × (count ≡ took)) ⊎ StopsAtEvents why took count b c old new)
      ⊎ StopsAtPolls why homes count b c old new

  -- a turn that stopped: the run is halted, and all are woken
  pub record TurnStops (why : Stop) (old new : ReactorEnd L F M B C) : Type 0 where
    pub begun : WorkerEnd L F M B C
    pub last : WorkerEnd L F M B C
    pub begins : ReadsOnce readings old.worker begun
    pub stops : StepsStop why old.homes old.took new.took old.balancer new.balancer begun last
    pub reactor : new ≡ record old { worker = halted last; balancer = new.balancer; span = spanned begun.now old.span; took = new.took; stopped = true }
