-- The round of a turn.
use Rattle.std.specs.Prelude.{◌≡◌, ◌⊎◌, ℕ, List, [], ◌∷◌, ◌++◌, Any, Option, None, Some, unwrap_or}
use Rattle.lw_base.specs.declared.moves.Row.{Row}
use Rattle.lw_base.specs.declared.moves.Order.{Order}
use Rattle.lw_base.specs.declared.moves.Round.{Round}
use Rattle.lw_thread.specs.Threads.{Thread}
use Rattle.lw_rounds.specs.Measures.{HasOnlyLooked, told_of}
use Rattle.lw_rounds.specs.Rounds.{BalancerEnd, HasOnlyRead, IsDue, Makes}
use Rattle.lw_event.specs.Desks.{Desk}
use Rattle.lw_event.specs.Sleepers.{SleeperEnd}
use Rattle.lw_station.specs.declared.stop.Stop.{Stop}
use Rattle.lw_station.specs.declared.stop.Stop.TheVariants as stop
use Rattle.lw_station.specs.Stations.{StationEnd}
use Rattle.lw_station.specs.Posting.{Orders}
use Rattle.lw_station.specs.Stopping.{RefusesTo}
use Rattle.lw_reactor.specs.Workers.{WorkerEnd, with_sent}

-- a row of the round found the thread in the list of this reactor
abbrev pub Found : Round → ℕ → ℕ → Type 0
Found x thread reactor = Any (λ (w : Row). (w.thread ≡ thread) × (w.reactor ≡ reactor)) x.rows

-- the last round that was made
pub record IsLast (round : Round) (b : BalancerEnd) : Type 0 where
  pub past : List Round
  pub last : b.rounds ≡ past ++ round ∷ []

-- the sums of these threads were told, of each once
abbrev pub telling : {L F M B : Type 0} → List (Thread L F M B) → BalancerEnd → BalancerEnd
telling [] b = b
telling (t ∷ ts) b = telling ts (record b { meter = told_of t.seat.thread (record { busy = t.load.busy; idle = t.load.idle }) b.meter })

-- the sums of all threads that a reactor has were told
abbrev pub telling_own : {L F M B : Type 0} → StationEnd L F M B → BalancerEnd → BalancerEnd
telling_own s b = telling s.held (telling s.list b)

-- a balancer whose first reading is noted
abbrev pub noting : ℕ → BalancerEnd → BalancerEnd
noting now b = record b { first = Some (unwrap_or b.first now) }

module _ {B M L F : Type 0} where
  -- some orders of a round were sent, in order: each to the reactor in whose list the round found the thread
  abbrev pub SendsOrders : Round → List Order → Desk B M L F → Desk B M L F → SleeperEnd → SleeperEnd → Type 0
  SendsOrders x [] d e s z = (e ≡ d) × (z ≡ s)
  SendsOrders x (o ∷ os) d e s z =
      (at : ℕ) × Found x o.thread at
      × (c : Desk B M L F) × (y : SleeperEnd) × Orders at x.number o.thread o.to d c s y
      × SendsOrders x os c e y z

  -- all orders of the last round were sent
  pub record OrdersAll (b : BalancerEnd) (d e : Desk B M L F) (s z : SleeperEnd) : Type 0 where
    pub round : Round
    pub is_last : IsLast round b
    pub sent : SendsOrders round round.orders d e s z

  -- some were sent, and the next one was refused
  pub record OrdersSome (b : BalancerEnd) (why : Stop) (d e : Desk B M L F) (s z : SleeperEnd) : Type 0 where
    pub round : Round
    pub is_last : IsLast round b
    pub done : List Order
    pub next : Order
    pub rest : List Order
    pub parts : round.orders ≡ done ++ next ∷ rest
    pub sent : SendsOrders round done d e s z
    pub at : ℕ
    pub found : Found round next.thread at
    pub refused : RefusesTo at e why

module _ {L F M B C : Type 0} where
  -- a round was made at the turn's first reading, by the sums of the reactor's own threads, and its orders were sent
  pub record MakesRound (b c : BalancerEnd) (old new : WorkerEnd L F M B C) : Type 0 where
    pub due : IsDue old.now (noting old.now b)
    pub made : Makes old.now (telling_own old.station (noting old.now b)) c old.desk new.desk
    pub ordered : OrdersAll c old.station.events new.station.events old.station.sleeper new.station.sleeper
    pub worker : new ≡ with_sent new.station.events new.station.sleeper (record old { desk = new.desk })

  -- no round is due: nothing is told, and nothing read
  pub record MakesNone (b c : BalancerEnd) (old new : WorkerEnd L F M B C) : Type 0 where
    pub not_due : IsDue old.now (noting old.now b) → ⊥
    pub balancer : c ≡ noting old.now b
    pub worker : new ≡ old

  -- a reactor that makes rounds makes one exactly where it is due
  abbrev pub Balances : Option BalancerEnd → Option BalancerEnd → WorkerEnd L F M B C → WorkerEnd L F M B C → Type 0
  Balances None None old new = new ≡ old
  Balances None (Some c) old new = ⊥
  Balances (Some b) None old new = ⊥
  Balances (Some b) (Some c) old new = MakesRound b c old new ⊎ MakesNone b c old new

  -- a round was due, and there was no memory for it: figures may have been read, and places looked at
  pub record RoundFails (why : Stop) (b c : BalancerEnd) (old new : WorkerEnd L F M B C) : Type 0 where
    pub due : IsDue old.now (noting old.now b)
    pub cause : why ≡ stop.NoMemory
    pub read : HasOnlyRead (telling_own old.station (noting old.now b)) c
    pub looked : HasOnlyLooked old.desk new.desk
    pub worker : new ≡ record old { desk = new.desk }

  -- a round was made, and one of its orders was refused
  pub record OrderFails (why : Stop) (b c : BalancerEnd) (old new : WorkerEnd L F M B C) : Type 0 where
    pub due : IsDue old.now (noting old.now b)
    pub made : Makes old.now (telling_own old.station (noting old.now b)) c old.desk new.desk
    pub ordered : OrdersSome c why old.station.events new.station.events old.station.sleeper new.station.sleeper
    pub worker : new ≡ with_sent new.station.events new.station.sleeper (record old { desk = new.desk })

  -- the reactor stopped in a round
  abbrev pub RoundStops : Stop → Option BalancerEnd → Option BalancerEnd → WorkerEnd L F M B C → WorkerEnd L F M B C → Type 0
  RoundStops why None c old new = ⊥
  RoundStops why (Some b) None old new = ⊥
  RoundStops why (Some b) (Some c) old new = RoundFails why b c old new ⊎ OrderFails why b c old new
