-- What callers see of a reactor, and what its type keeps.
use Rattle.std.specs.Prelude.{◌≡◌, ℕ, ◌≤◌, Bool, false, List, [], ◌++◌, length, All, Option, IfNone, IfSome, None, Some}
use Rattle.lw_base.specs.declared.moves.Round.{Round}
use Rattle.lw_thread.specs.Runs.{RunId}
use Rattle.lw_rounds.specs.Rounds.{BalancerEnd, IsDue, IsNotBefore}
use Rattle.lw_event.specs.Desks as desks
use Rattle.lw_station.specs.Stations.{MayAllGo}
use Rattle.lw_reactor.specs.Workers.{AreHomes, IsWorkerOf, WorkerEnd, slept}
use Rattle.lw_reactor.specs.declared.reactor.Span.{Span}
use Rattle.lw_reactor.specs.declared.reactor.Parts.{Parts}

-- a reactor: where each thread of the run starts, what the reactor works with, who makes the rounds, the first readings of its
-- first turn and of its last, how many events that one took, and whether a turn has answered Stop
pub record ReactorEnd (L F M B C : Type 0) : Type 0 where
  pub homes : List ℕ
  pub worker : WorkerEnd L F M B C
  pub balancer : Option BalancerEnd
  pub span : Option Span
  pub took : ℕ
  pub stopped : Bool

-- the rounds are those of the run, of its threads and reactors, and none is later than the reading
pub record BalancesRun {F : Type 0} (run : RunId F) (now : ℕ) (b : BalancerEnd) : Type 0 where
  pub reactors : b.reactors ≡ run.places.reactors
  pub threads : length b.masks ≡ run.places.threads
  pub period : 1 ≤ b.period
  pub none_yet : IfNone b.first (b.rounds ≡ [])
  pub not_before : IsNotBefore now b

-- a reactor's first reading
abbrev pub first_of : Option Span → Option ℕ
first_of None = None
first_of (Some s) = Some s.first

-- no round is due at the first reading of the reactor's last turn
abbrev pub NoneIsDue : Option Span → BalancerEnd → Type 0
NoneIsDue None b = Unit {0}
NoneIsDue (Some s) b = IsDue s.last b → ⊥

-- no sums are told to the balancer
abbrev pub NoneTold : BalancerEnd → Type 0
NoneTold b = All (λ o. o ≡ None) b.meter.told

module _ {L F M B C : Type 0} where
  -- what is so of a reactor of a run, whether a turn of it has answered Stop or not
  pub record IsReactorOf (run : RunId F) (homes : List ℕ) (b : Option BalancerEnd) (w : WorkerEnd L F M B C) : Type 0 where
    pub its_homes : AreHomes run homes
    pub worker : IsWorkerOf run homes w
    pub balancer : IfSome b (BalancesRun run w.now)

  -- what is so besides as long as none has: each thread of its list may be polled, no event that was taken is left, and no sums
  -- are told
  pub record IsGoing (homes : List ℕ) (b : Option BalancerEnd) (w : WorkerEnd L F M B C) : Type 0 where
    pub list : MayAllGo homes w.station
    pub no_batch : w.station.events.batch ≡ []
    pub none_told : IfSome b NoneTold

  -- What a reactor keeps: it is one of a run, the rounds go by its own first reading, and as long as no turn has answered Stop no
  -- round was missed.
  pub record IsKept (r : ReactorEnd L F M B C) : Type 0 where
    pub run : RunId F
    pub parts : IsReactorOf run r.homes r.balancer r.worker
    pub first : IfSome r.balancer (λ b. b.first ≡ first_of r.span)
    pub going : r.stopped ≡ false → IsGoing r.homes r.balancer r.worker
    pub none_due : r.stopped ≡ false → IfSome r.balancer (NoneIsDue r.span)

-- the rounds stay those of the run, and more may have been made
pub record RoundsGoOn (b c : BalancerEnd) : Type 0 where
  pub reactors : c.reactors ≡ b.reactors
  pub masks : c.masks ≡ b.masks
  pub period : c.period ≡ b.period
  pub more : List Round
  pub rounds : c.rounds ≡ b.rounds ++ more

-- a reactor goes on to make the rounds, or doesn't make them
abbrev pub BalancerStill : Option BalancerEnd → Option BalancerEnd → Type 0
BalancerStill None None = Unit {0}
BalancerStill None (Some c) = ⊥
BalancerStill (Some b) None = ⊥
BalancerStill (Some b) (Some c) = RoundsGoOn b c

-- a clock that tells its readings has told those that it told before, and more
abbrev pub ReadingsGoOn : Option (List ℕ) → Option (List ℕ) → Type 0
ReadingsGoOn before None = Unit {0}
ReadingsGoOn before (Some after) = (told : List ℕ) × (more : List ℕ) × (before ≡ Some told) × (after ≡ told ++ more)

module _ {L F M B C : Type 0} where
  -- Whose reactor it is stays: its number, the run with its homes, the event rings and the places. Its readings go on and never
  -- back, and its rounds go on.
  pub record ReactorStill (readings : C → Option (List ℕ)) (old new : ReactorEnd L F M B C) : Type 0 where
    pub number : new.worker.station.number ≡ old.worker.station.number
    pub homes : new.homes ≡ old.homes
    pub events : desks.IsStill old.worker.station.events new.worker.station.events
    pub desk : new.worker.desk.places ≡ old.worker.desk.places
    pub now : old.worker.now ≤ new.worker.now
    pub clock : ReadingsGoOn (readings old.worker.clock) (readings new.worker.clock)
    pub rounds : BalancerStill old.balancer new.balancer

  -- it has nothing to do until it is woken
  pub record MaySleep (r : ReactorEnd L F M B C) : Type 0 where
    pub other : 1 ≤ r.worker.station.number
    pub none_taken : r.took ≡ 0
    pub none_there : r.worker.station.list ≡ []

  -- it has slept once more
  abbrev pub asleep : ReactorEnd L F M B C → ReactorEnd L F M B C
  asleep r = record r { worker = slept r.worker }

-- the parts of a reactor
pub record IsParts {B M L F C : Type 0} (r : ReactorEnd L F M B C) (p : Parts B C M L F) : Type 0 where
  pub number : p.number ≡ r.worker.station.number
  pub remains : p.remains.items ≡ r.worker.remains
  pub list : p.list.items ≡ r.worker.station.list
  pub held : p.held.items ≡ r.worker.station.held
  pub desk : p.desk ≡ r.worker.desk
  pub events : p.events ≡ r.worker.station.events
  pub balancer : p.balancer ≡ r.balancer
  pub span : p.span ≡ r.span
  pub clock : p.clock ≡ r.worker.clock
