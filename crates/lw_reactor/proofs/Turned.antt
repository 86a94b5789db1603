-- A turn, as the reactor makes it.
use Rattle.std.proofs.Common.{◌≡◌, ℕ, Bool, true, false, List, Option, Some, Ok, Err, sym, ap, subst, ◌∙◌}
use Rattle.std.specs.Prelude.{IfErr, IfOk, is_err}
use Rattle.std.specs.declared.result.Result.{Result}
use Rattle.lw_thread.specs.declared.stop.Polled.{Polled}
use Rattle.lw_thread.specs.declared.stop.Stop.{Stop as Cause}
use Rattle.lw_thread.specs.Threads.{Thread}
use Rattle.lw_rounds.specs.Rounds.{BalancerEnd}
use Rattle.lw_station.specs.declared.stop.Stop.{Stop}
use Rattle.lw_station.specs.declared.stop.Stop.TheVariants as stop
use Rattle.lw_station.specs.declared.stop.Turned.{Turned}
use Rattle.lw_reactor.specs.declared.reactor.Span.{Span}
use Rattle.lw_reactor.specs.Workers.{ReadsOnce, WorkerEnd}
use Rattle.lw_reactor.specs.Reactors.{ReactorEnd}
use Rattle.lw_reactor.specs.Stopping.{IsShown}
use Rattle.lw_reactor.specs.Turns.{Steps, StepsStop, TurnStops, Turns, halted, spanned}

-- what is said of the one or the other answer, where it is known which it is
pub err_pick : {T E : Type 0} (r : Result T E) (b : Bool) (P : E → Type 0) → b ≡ is_err r → b ≡ true → IfErr r P → (e : E) × P e
err_pick (Ok x) b P is so h = absurd (let wrong : true ≡ false = sym so ∙ is in cc)
err_pick (Err e) b P is so h = (e, h)

pub ok_pick : {T E : Type 0} (r : Result T E) (b : Bool) (P : T → Type 0) → b ≡ is_err r → b ≡ false → IfOk r P → (x : T) × P x
ok_pick (Ok x) b P is none h = (x, h)
ok_pick (Err e) b P is none h = absurd (let wrong : true ≡ false = sym is ∙ none in cc)

module _ {L F M B C : Type 0} where
  -- a halt changes nothing of what shows a Stop
  pub halted_shown : (w v : WorkerEnd L F M B C) (s : Stop) → v ≡ halted w → IsShown w.station s → IsShown v.station s
  halted_shown w v stop.NoMemory e h = tt
  halted_shown w v (stop.Spent true from to count) e h = subst (λ (x : WorkerEnd L F M B C). IsShown x.station (stop.Spent true from to count)) (sym e) h
  halted_shown w v (stop.Spent false from to count) e h = subst (λ (x : WorkerEnd L F M B C). IsShown x.station (stop.Spent false from to count)) (sym e) h

module _ {L F M B C : Type 0} (readings : C → Option (List ℕ)) (polls : ℕ → Thread L F M B → Thread L F M B → Polled → Type 0) (ends : B → Bool) where
  pub turns_is : (t : Turned) (v o : ReactorEnd L F M B C) (m w : WorkerEnd L F M B C) (b : Option BalancerEnd) (homes : List ℕ) (n took : ℕ) (s : Span) → v ≡ o → homes ≡ v.homes → n ≡ m.now → Some s ≡ spanned n v.span → ReadsOnce readings v.worker m → Steps readings polls ends t homes took v.balancer b m w
      → Turns readings polls ends t o (record v { worker = w; balancer = b; span = Some s; took = took })
  turns_is t v o m w b homes n took s is same now span reads steps = subst (λ (x : ReactorEnd L F M B C). Turns readings polls ends t x (record v { worker = w; balancer = b; span = Some s; took = took })) is (record {
    begun = m;
    begins = reads;
    steps = subst (λ (hs : List ℕ). Steps readings polls ends t hs took v.balancer b m w) same steps;
    reactor = λ i. record v { worker = w; balancer = b; span = (span ∙ ap (λ k. spanned k v.span) now) i; took = took };
  })

module _ {L F M B C : Type 0} (readings : C → Option (List ℕ)) (polls : ℕ → Thread L F M B → Thread L F M B → Polled → Type 0) (halts : ℕ → Thread L F M B → Thread L F M B → Cause → Type 0) (ends : B → Bool) where
  pub turn_stops_is : (why : Stop) (v o : ReactorEnd L F M B C) (m l w : WorkerEnd L F M B C) (b : Option BalancerEnd) (homes : List ℕ) (n took : ℕ) (s : Span) → v ≡ o → homes ≡ v.homes → n ≡ m.now → Some s ≡ spanned n v.span → ReadsOnce readings v.worker m → w ≡ halted l → StepsStop readings polls halts ends why homes v.took took v.balancer b m l
      → TurnStops readings polls halts ends why o (record v { worker = w; balancer = b; span = Some s; took = took; stopped = true })
  turn_stops_is why v o m l w b homes n took s is same now span reads halt stops = subst (λ (x : ReactorEnd L F M B C). TurnStops readings polls halts ends why x (record v { worker = w; balancer = b; span = Some s; took = took; stopped = true })) is (record {
    begun = m;
    last = l;
    begins = reads;
    stops = subst (λ (hs : List ℕ). StepsStop readings polls halts ends why hs v.took took v.balancer b m l) same stops;
    reactor = λ i. record v { worker = halt i; balancer = b; span = (span ∙ ap (λ k. spanned k v.span) now) i; took = took; stopped = true };
  })
