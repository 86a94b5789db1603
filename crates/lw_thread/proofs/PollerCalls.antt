-- A poll as a run of calls of the thread's pollers.
use Rattle.std.proofs.Common.{◌≡◌, ℕ, Bool, true, false, List, [], ◌∷◌, ◌++◌, map, inl, inr, refl, sym, ap, subst, ◌∙◌, ⊎_elim, Option, Some, None}
use Rattle.std.proofs.lemmas.List.{append-nil, map-append}
use Rattle.lw_base.specs.declared.message.Tag.{Tag}
use Rattle.lw_poller.specs.Pollers.{Pollers, AreKept}
use Rattle.lw_poller.specs.LocalDue.{begun}
use Rattle.lw_poller.specs.Changes.{IsLeastFree, AddsTimed, Pauses, Resumes, Removes, with_active}
use Rattle.lw_poller.specs.OnePoll.{Call, Changes, Gives, AreCalls, all_numbers}
use Rattle.lw_poller.proofs.OnePoll.{once as all_once, absent as never_given, not_resumed}
use Rattle.lw_thread.specs.declared.body.Work.{Work}
use Rattle.lw_thread.specs.declared.stop.Polled.{Polled}
use Rattle.lw_thread.specs.Acts.{ActsEnd, Doing}
use Rattle.lw_thread.specs.Calls.{Adds}
use Rattle.lw_thread.specs.PollerChanges.{IsChange, AreChanges}
use Rattle.lw_thread.specs.PollersCalled.{CallsPollers, after_calls, and_given, given_by, gives, gives_none, calls_running, calls_active, calls_timed, calls_sending, calls_of}
use Rattle.lw_thread.specs.Polls.{Flow, Tick, RunsAll, TicksActive, TicksTimed, Sends, Polls, opened, ticked, with_doing, with_pollers, with_pending, one_more}
use Rattle.lw_thread.specs.Threads.{Thread}
use Rattle.lw_thread.proofs.PollerSets.{kept_begun, kept_change, kept_active, kept_timed}

-- These calls lead from a set of pollers to another, and give these.
pub record Leads (s : Pollers) (calls : List Call) (numbers : List ℕ) (t : Pollers) : Type 0 where
  pub each : AreCalls all_numbers s calls
  pub last : after_calls s calls ≡ t
  pub given : given_by calls ≡ numbers
  pub kept : AreKept t

calls_both : (cs ds : List Call) (s t : Pollers) → AreCalls all_numbers s cs → after_calls s cs ≡ t → AreCalls all_numbers t ds → AreCalls all_numbers s (cs ++ ds)
calls_both [] ds s t a e b = subst (λ (x : Pollers). AreCalls all_numbers x ds) (sym e) b
calls_both (c ∷ cs) ds s t a e b = (a.0, a.1, calls_both cs ds c.after t a.2 e b)

after_both : (cs ds : List Call) (s : Pollers) → after_calls s (cs ++ ds) ≡ after_calls (after_calls s cs) ds
after_both [] ds s = refl
after_both (c ∷ cs) ds s = after_both cs ds c.after

given_more : (g : Option ℕ) (ns ms : List ℕ) → and_given g (ns ++ ms) ≡ and_given g ns ++ ms
given_more None ns ms = refl
given_more (Some n) ns ms = refl

given_both : (cs ds : List Call) → given_by (cs ++ ds) ≡ given_by cs ++ given_by ds
given_both [] ds = refl
given_both (c ∷ cs) ds = ap (and_given c.given) (given_both cs ds) ∙ given_more c.given (given_by cs) (given_by ds)

leads_none : (s : Pollers) → AreKept s → Leads s [] [] s
leads_none s h = record { each = tt; last = refl; given = refl; kept = h }

leads_both : (s t u : Pollers) (cs ds : List Call) (ns ms : List ℕ) → Leads s cs ns t → Leads t ds ms u → Leads s (cs ++ ds) (ns ++ ms) u
leads_both s t u cs ds ns ms a b = record {
  each = calls_both cs ds s t a.each a.last b.each;
  last = after_both cs ds s ∙ ap (λ (x : Pollers). after_calls x ds) a.last ∙ b.last;
  given = given_both cs ds ∙ (λ i. a.given i ++ b.given i);
  kept = b.kept;
}

-- a change is a call
is_call : (s t : Pollers) → IsChange s t → Changes all_numbers s t
is_call s t c = ⊎_elim
    (λ (x : (number : ℕ) × IsLeastFree s number × (t ≡ with_active number s)). inl (x.0, x.2))
    (λ c. ⊎_elim
    (λ (x : (number : ℕ) × IsLeastFree s number × (now : ℕ) × (period : ℕ) × AddsTimed number now period s t). inr (inl (x.0, x.2, x.3, x.4)))
    (λ c. ⊎_elim
    (λ (x : (number : ℕ) × Pauses number s t). inr (inr (inl x)))
    (λ c. ⊎_elim
    (λ (x : (number : ℕ) × (now : ℕ) × Resumes number now s t). inr (inr (inr (inl (x.0, x.1, tt, x.2)))))
    (λ (x : (number : ℕ) × Removes number s t). inr (inr (inr (inr x))))
    c)
    c)
    c)
    c

leads_changes : (us : List Pollers) (s t : Pollers) → AreKept s → AreChanges s us t → Leads s (map gives_none us) [] t
leads_changes [] s t h c = subst (λ (x : Pollers). Leads s [] [] x) (sym c) (leads_none s h)
leads_changes (u ∷ us) s t h c =
    let one : Leads s (gives_none u ∷ []) [] u = record { each = (h, inl (is_call s u c.0, refl), tt); last = refl; given = refl; kept = kept_change s h u c.0 } in
    leads_both s u t (gives_none u ∷ []) (map gives_none us) [] [] one (leads_changes us u t one.kept c.1)

module _ {M : Type 0} where
  -- a call of a body leads on
  leads_added : (a b : ActsEnd M) → AreKept a.pollers → (adds : Adds a b) → Leads a.pollers (map gives_none adds.changes) [] b.pollers
  leads_added a b h adds = leads_changes adds.changes a.pollers b.pollers h adds.pollers

  -- a poller is given, its call changes the set, and others follow
  leads_tick : (number : ℕ) (s ps t : Pollers) (a b : ActsEnd M) (cs : List Call) (ns : List ℕ) → AreKept s → AreKept ps → Gives number s ps → ps ≡ a.pollers → (adds : Adds a b)
      → (AreKept b.pollers → Leads b.pollers cs ns t) → Leads s (gives number ps ∷ map gives_none adds.changes ++ cs) (number ∷ ns) t
  leads_tick number s ps t a b cs ns h k is same adds on =
      let one : Leads s (gives number ps ∷ []) (number ∷ []) ps = record { each = (h, inr (number, is, refl), tt); last = refl; given = refl; kept = k } in
      let two = subst (λ (x : Pollers). Leads x (map gives_none adds.changes) [] b.pollers) (sym same) (leads_added a b (subst AreKept same k) adds) in
      leads_both s ps t (gives number ps ∷ []) (map gives_none adds.changes ++ cs) (number ∷ []) ns one (leads_both ps b.pollers t (map gives_none adds.changes) cs [] ns two (on two.kept))

module _ {L F M B : Type 0} where
  module _ (runs : L → ℕ → Doing M B → Doing M B → Type 0) where
    leads_runs : (now : ℕ) (xs : List L) (s t : Flow L F M B) → AreKept s.acts.pollers → (c : RunsAll runs now xs s t) → Leads s.acts.pollers (calls_running runs now xs s t c) [] t.acts.pollers
    leads_runs now [] s t h c = subst (λ (x : Flow L F M B). Leads s.acts.pollers [] [] x.acts.pollers) (sym c) (leads_none s.acts.pollers h)
    leads_runs now (x ∷ xs) s t h c =
        let u : Doing M B = c.0 in
        let on = with_doing s (record u { acts = one_more u.acts }) in
        let one = leads_added s.acts u.acts h c.2 in
        leads_both s.acts.pollers u.acts.pollers t.acts.pollers (map gives_none c.2.changes) (calls_running runs now xs on t c.3) [] [] one (leads_runs now xs on t one.kept c.3)

    pub kept_runs : (now : ℕ) (xs : List L) (s t : Flow L F M B) → AreKept s.acts.pollers → RunsAll runs now xs s t → AreKept t.acts.pollers
    kept_runs now xs s t h c = (leads_runs now xs s t h c).kept

  module _ (ticks : ℕ → ℕ → Work → Doing M B → Doing M B → Type 0) where
    leads_active : (now : ℕ) (cs : List Tick) (s t : Flow L F M B) → AreKept s.acts.pollers → (c : TicksActive ticks now cs s t) → Leads s.acts.pollers (calls_active ticks now cs s t c) (map ticked cs) t.acts.pollers
    leads_active now [] s t h c = subst (λ (x : Flow L F M B). Leads s.acts.pollers [] [] x.acts.pollers) (sym c.1) (leads_none s.acts.pollers h)
    leads_active now (x ∷ xs) s t h c =
        let k = kept_active s.acts.pollers h c.0 x.poller c.2 c.1 c.3 in
        let on = with_doing s c.4 in
        leads_tick x.poller s.acts.pollers c.2 t.acts.pollers (with_pollers s c.2).acts c.4.acts (calls_active ticks now xs on t c.7) (map ticked xs) h k (c.0, inl (c.1, c.3)) refl c.6
        (λ kept. leads_active now xs on t kept c.7)

    leads_timed : (now : ℕ) (cs : List Tick) (s t : Flow L F M B) → AreKept s.acts.pollers → (c : TicksTimed ticks now cs s t) → Leads s.acts.pollers (calls_timed ticks now cs s t c) (map ticked cs) t.acts.pollers
    leads_timed now [] s t h c = subst (λ (x : Flow L F M B). Leads s.acts.pollers [] [] x.acts.pollers) (sym c.1) (leads_none s.acts.pollers h)
    leads_timed now (x ∷ xs) s t h c =
        let k = kept_timed s.acts.pollers h c.0 x.poller c.2 c.1 c.3 in
        let on = with_doing s c.4 in
        leads_tick x.poller s.acts.pollers c.2 t.acts.pollers (with_pollers s c.2).acts c.4.acts (calls_timed ticks now xs on t c.7) (map ticked xs) h k (c.0, inr (c.1, c.3)) refl c.6
        (λ kept. leads_timed now xs on t kept c.7)

    pub kept_timed_calls : (now : ℕ) (cs : List Tick) (s t : Flow L F M B) → AreKept s.acts.pollers → TicksTimed ticks now cs s t → AreKept t.acts.pollers
    kept_timed_calls now cs s t h c = (leads_timed now cs s t h c).kept

    pub kept_ticked : (now : ℕ) (cs : List Tick) (s t : Flow L F M B) → AreKept s.acts.pollers → TicksActive ticks now cs s t → AreKept t.acts.pollers
    kept_ticked now cs s t h c = (leads_active now cs s t h c).kept

  module _ (thread : ℕ) (letter : M → L) (marked : L → ℕ → ℕ → L) (takes_back : ℕ → L → Doing M B → Doing M B → Type 0) where
    leads_sends : (bs : List Bool) (s t : Flow L F M B) → AreKept s.acts.pollers → (c : Sends thread letter marked takes_back bs s t) → Leads s.acts.pollers (calls_sending thread letter marked takes_back bs s t c) [] t.acts.pollers
    leads_sends [] s t h c = subst (λ (x : Flow L F M B). Leads s.acts.pollers [] [] x.acts.pollers) (sym c.1) (leads_none s.acts.pollers h)
    leads_sends (false ∷ bs) s t h c = leads_sends bs (record (with_pending s c.1) { ends = c.3 }) t h c.5
    leads_sends (true ∷ bs) s t h c =
        let u : Doing M B = c.5 in
        let on : Flow L F M B = record { body = u.body; acts = record u.acts { pending = u.acts.pending ++ c.1 }; ends = c.3 } in
        let one = leads_added (with_pending s []).acts u.acts h c.7 in
        leads_both s.acts.pollers u.acts.pollers t.acts.pollers (map gives_none c.7.changes) (calls_sending thread letter marked takes_back bs on t c.8) [] [] one (leads_sends bs on t one.kept c.8)

    pub kept_sends : (bs : List Bool) (s t : Flow L F M B) → AreKept s.acts.pollers → Sends thread letter marked takes_back bs s t → AreKept t.acts.pollers
    kept_sends bs s t h c = (leads_sends bs s t h c).kept

-- what the calls from some place on are
calls_behind : (may : ℕ → Type 0) (before after : List Call) (s : Pollers) → AreCalls may s (before ++ after) → AreCalls may (after_calls s before) after
calls_behind may [] after s c = c
calls_behind may (b ∷ before) after s c = calls_behind may before after b.after c.2

calls_pollers : (s t : Pollers) (cs : List Call) (ns : List ℕ) → Leads s cs ns t → CallsPollers s cs ns t
calls_pollers s t cs ns l = record {
  each = l.each;
  last = l.last;
  given = l.given;
  once = all_once s cs l.each;
  absent = λ before after number parts none. never_given (after_calls s before) after number (calls_behind all_numbers before after s (subst (λ xs. AreCalls all_numbers s xs) parts l.each)) none;
  paused = λ before after number parts calls is. not_resumed (after_calls s before) after number calls is;
}

module _ {L F M B : Type 0} (letter : M → L) (tag_of : L → Tag) (fits : ℕ → F → M → Type 0) (marked : L → ℕ → ℕ → L) (runs : L → ℕ → Doing M B → Doing M B → Type 0) (ticks : ℕ → ℕ → Work → Doing M B → Doing M B → Type 0) (takes_back : ℕ → L → Doing M B → Doing M B → Type 0) where
  leads_poll : (now : ℕ) (old new : Thread L F M B) (result : Polled) → AreKept old.acts.pollers → (p : Polls letter tag_of fits marked runs ticks takes_back now old new result)
      → Leads (begun now old.acts.pollers) (calls_of p) (map ticked (p.active ++ p.timed)) new.acts.pollers
  leads_poll now old new result h p =
      let s0 : Pollers = begun now old.acts.pollers in
      let start : AreKept s0 = kept_begun now old.acts.pollers h in
      let sends = calls_sending old.seat.thread letter marked takes_back p.returned p.after_timed p.last p.send_all in
      let timed = calls_timed ticks now p.timed p.after_active p.after_timed p.call_timed in
      let active = calls_active ticks now p.active p.after_run p.after_active p.call_active in
      let running = calls_running runs now p.batch (opened now old) p.after_run p.run_each in
      let a = leads_runs runs now p.batch (opened now old) p.after_run start p.run_each in
      let b = leads_active ticks now p.active p.after_run p.after_active a.kept p.call_active in
      let c = leads_timed ticks now p.timed p.after_active p.after_timed b.kept p.call_timed in
      let d = leads_sends old.seat.thread letter marked takes_back p.returned p.after_timed p.last c.kept p.send_all in
      let ab = leads_both s0 p.after_run.acts.pollers p.after_active.acts.pollers running active [] (map ticked p.active) a b in
      let abc = leads_both s0 p.after_active.acts.pollers p.after_timed.acts.pollers (running ++ active) timed (map ticked p.active) (map ticked p.timed) ab c in
      let all = leads_both s0 p.after_timed.acts.pollers p.last.acts.pollers (running ++ active ++ timed) sends (map ticked p.active ++ map ticked p.timed) [] abc d in
      let numbers : (map ticked p.active ++ map ticked p.timed) ++ [] ≡ map ticked (p.active ++ p.timed) =
      append-nil (map ticked p.active ++ map ticked p.timed) ∙ sym (map-append ticked p.active p.timed) in
      let same : p.last.acts.pollers ≡ new.acts.pollers = sym (ap (λ (q : ActsEnd M). q.pollers) p.acts) in
      subst (λ (t : Pollers). Leads s0 (calls_of p) (map ticked (p.active ++ p.timed)) t) same (subst (λ ns. Leads s0 (calls_of p) ns p.last.acts.pollers) numbers all)

  pub poll_calls : (now : ℕ) (old new : Thread L F M B) (result : Polled) → AreKept old.acts.pollers → (p : Polls letter tag_of fits marked runs ticks takes_back now old new result)
      → CallsPollers (begun now old.acts.pollers) (calls_of p) (map ticked (p.active ++ p.timed)) new.acts.pollers
  poll_calls now old new result h p = calls_pollers (begun now old.acts.pollers) new.acts.pollers (calls_of p) (map ticked (p.active ++ p.timed)) (leads_poll now old new result h p)

  pub poll_kept : (now : ℕ) (old new : Thread L F M B) (result : Polled) → AreKept old.acts.pollers → Polls letter tag_of fits marked runs ticks takes_back now old new result → AreKept new.acts.pollers
  poll_kept now old new result h p = (leads_poll now old new result h p).kept
