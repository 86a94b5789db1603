-- What the sends of a turn leave alone, and how they go on.
use Rattle.std.proofs.Common.{◌≡◌, ℕ, List, [], ◌∷◌, ◌++◌, length, refl, sym, ap, subst, ◌∙◌, length-set}
use Rattle.std.specs.Prelude.{slice_index}
use Rattle.lw_base.specs.declared.moves.Order.{Order}
use Rattle.lw_base.specs.declared.moves.Round.{Round}
use Rattle.lw_thread.specs.Runs.{RunId}
use Rattle.lw_event.specs.declared.event.Event.{Event}
use Rattle.lw_event.specs.Desks.{Desk, IsStill}
use Rattle.lw_event.specs.Sleepers.{SleeperEnd}
use Rattle.lw_station.specs.Stations.{StationEnd, IsStationOf}
use Rattle.lw_station.specs.Posting.{Orders, Posts}
use Rattle.lw_station.proofs.Steps.{same_still, sent_still, still_both}
use Rattle.lw_reactor.specs.Polling.{OrdersStarts}
use Rattle.lw_reactor.specs.Rounding.{Found, SendsOrders}

module _ {B M L F : Type 0} where
  -- events were sent, and reactors woken; nothing was taken or handed out
  pub record SentOn (d e : Desk B M L F) (s z : SleeperEnd) : Type 0 where
    pub still : IsStill d e
    pub batch : e.batch ≡ d.batch
    pub wakers : length z.wakers ≡ length s.wakers

  pub on_same : (d e : Desk B M L F) (s z : SleeperEnd) → (e ≡ d) × (z ≡ s) → SentOn d e s z
  on_same d e s z h = record {
    still = subst (IsStill d) (sym h.0) (same_still d);
    batch = ap (λ (x : Desk B M L F). x.batch) h.0;
    wakers = ap (λ (x : SleeperEnd). length x.wakers) h.1;
  }

  pub on_both : (d c e : Desk B M L F) (s y z : SleeperEnd) → SentOn d c s y → SentOn c e y z → SentOn d e s z
  on_both d c e s y z a b = record { still = still_both d c e a.still b.still; batch = b.batch ∙ a.batch; wakers = b.wakers ∙ a.wakers }

  pub posts_on : (to : ℕ) (event : Event B M L F) (d e : Desk B M L F) (s z : SleeperEnd) → Posts to event d e s z → SentOn d e s z
  posts_on to event d e s z h = record {
    still = sent_still to event d e h.sent;
    batch = ap (λ (x : Desk B M L F). x.batch) h.sent.sent;
    wakers = ap (λ (x : SleeperEnd). length x.wakers) (h.woken (record { parker = s.parker; woke = 0 })) ∙ length-set s.wakers to _;
  }

  -- ---- the orders to start threads

  pub starts_on : (homes ts : List ℕ) (d e : Desk B M L F) (s z : SleeperEnd) → OrdersStarts homes ts d e s z → SentOn d e s z
  starts_on homes [] d e s z h = on_same d e s z h
  starts_on homes (t ∷ ts) d e s z h = on_both d h.0 e s h.1 z (posts_on (slice_index homes t) _ d h.0 s h.1 h.2) (starts_on homes ts h.0 e h.1 z h.3)

  pub starts_more : (homes ts : List ℕ) (t : ℕ) (d c e : Desk B M L F) (s y z : SleeperEnd) → OrdersStarts homes ts d c s y
      → Orders (slice_index homes t) 0 t (slice_index homes t) c e y z → OrdersStarts homes (ts ++ t ∷ []) d e s z
  starts_more homes [] t d c e s y z h o =
      let at = slice_index homes t in
      (e, z, subst (λ (x : Desk B M L F). Orders at 0 t at x e s z) h.0 (subst (λ (x : SleeperEnd). Orders at 0 t at c e x z) h.1 o), (refl, refl))
  starts_more homes (u ∷ us) t d c e s y z h o = (h.0, h.1, h.2, starts_more homes us t h.0 c e h.1 y z h.3 o)

  -- ---- the orders of a round

  pub orders_on : (x : Round) (os : List Order) (d e : Desk B M L F) (s z : SleeperEnd) → SendsOrders x os d e s z → SentOn d e s z
  orders_on x [] d e s z h = on_same d e s z h
  orders_on x (o ∷ os) d e s z h = on_both d h.2 e s h.3 z (posts_on h.0 _ d h.2 s h.3 h.4) (orders_on x os h.2 e h.3 z h.5)

  pub orders_more : (x : Round) (os : List Order) (o : Order) (at : ℕ) (d c e : Desk B M L F) (s y z : SleeperEnd) → SendsOrders x os d c s y
      → Found x o.thread at → Orders at x.number o.thread o.to c e y z → SendsOrders x (os ++ o ∷ []) d e s z
  orders_more x [] o at d c e s y z h f p =
      (at, f, e, z, subst (λ (w : Desk B M L F). Orders at x.number o.thread o.to w e s z) h.0 (subst (λ (w : SleeperEnd). Orders at x.number o.thread o.to c e w z) h.1 p), (refl, refl))
  orders_more x (p ∷ ps) o at d c e s y z h f q = (h.0, h.1, h.2, h.3, h.4, orders_more x ps o at h.2 c e h.3 y z h.5 f q)

module _ {L F M B : Type 0} where
  -- the station stays its run's
  pub station_sent : (run : RunId F) (homes : List ℕ) (w : StationEnd L F M B) (e : Desk B M L F) (z : SleeperEnd) → SentOn w.events e w.sleeper z → IsStationOf run homes w → IsStationOf run homes (record w { events = e; sleeper = z })
  station_sent run homes w e z on k = record {
    family = ap (λ r. r.family) on.still.recv ∙ k.family;
    events_number = on.still.number ∙ k.events_number;
    reactors = on.still.ends.count ∙ k.reactors;
    own = k.own;
    wakers = on.wakers ∙ k.wakers;
    list = k.list;
    held = k.held;
  }
