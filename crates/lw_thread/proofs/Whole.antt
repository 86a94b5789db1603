-- A whole poll, out of its parts.
use Rattle.std.proofs.Common.{◌≡◌, ℕ, suc, ◌+◌, ◌-◌, ◌≤◌, Bool, true, false, List, [], ◌∷◌, ◌++◌, length, map, refl, sym, ap, subst, ◌∙◌, arith, length-append, Any, Ok, Err, inl, inr, ⊎_elim, Some}
use Rattle.std.specs.Prelude.{slice_index_or, ◌||◌, ◌↔◌, ◌⊎◌, IsTrue, IfErr, IsErrAnd}
use Rattle.std.specs.declared.result.Result.{Result}
use Rattle.std.proofs.lemmas.Bool.{cases_lt, false≢true}
use Rattle.std.proofs.lemmas.List.{append-nil}
use Rattle.std.proofs.Math.ListN.{get_or-append}
use Rattle.lw_base.specs.declared.message.Tag.{Tag}
use Rattle.lw_thread.specs.declared.stop.Stop.{Stop}
use Rattle.lw_thread.specs.declared.stop.Stop.TheVariants as stop
use Rattle.lw_ring.specs.Ends.{Receiver}
use Rattle.lw_poller.specs.LocalDue.{begun}
use Rattle.lw_thread.specs.Acts.{ActsEnd, Doing}
use Rattle.lw_thread.specs.Links.{Tied, Fills}
use Rattle.lw_thread.specs.declared.body.Work.{Work}
use Rattle.lw_thread.specs.Polls.{Takes, Flow, Tick, RunsAll, SendsUntil, WasBusy}
use Rattle.lw_thread.specs.Posting.{HasStopped, IsSending, RanBatch, RunsPart, CalledActive, CalledTimed, PostsUntil, StopsParts, PartsUntil, CameToParts, flow_tied}

-- a stop for want of memory
pub stopped : {T L F : Type 0} (r : Result T Stop) (l : Tied L F) (Q : Type 0) → IsErrAnd r (λ e. e ≡ stop.NoMemory) → Q → IfErr r (λ s. HasStopped l s × Q)
stopped (Ok x) l Q h q = tt
stopped (Err e) l Q h q = (subst (HasStopped l) (sym h) tt, q)

module _ {L F M B : Type 0} (letter : M → L) (tag_of : L → Tag) (fits : ℕ → F → M → Type 0) (runs : L → ℕ → Doing M B → Doing M B → Type 0) where
  -- nothing was taken
  pub stops_none : (now : ℕ) (k l : Tied L F) (a : ActsEnd M) (b : B) → l ≡ k → k.left ≡ [] → StopsParts tag_of runs letter fits now k l a b
  stops_none now k l a b same none = record {
    batch = [];
    took = inr (refl, ap (λ (t : Tied L F). t.recv) same);
    done = [];
    last = [];
    one = omega arith;
    parts = sym (ap (λ (t : Tied L F). t.left) same ∙ none);
    whole = λ e. ap (λ (t : Tied L F). t.left) same ∙ none;
    ran = ap (λ (t : Tied L F). t.ran) same ∙ sym (append-nil k.ran);
    after_run = flow_tied k (record a { pollers = begun now a.pollers }) b;
    run_each = refl;
  }

  -- a handler stopped
  pub stops_part : (now : ℕ) (k l m : Tied L F) (a a1 : ActsEnd M) (b : B) → Fills letter tag_of fits k l → a1 ≡ record a { pollers = begun now a.pollers } → RunsPart tag_of runs now l m a1 b → StopsParts tag_of runs letter fits now k m a b
  stops_part now k l m a a1 b f begun_is r =
      let recv : m.recv ≡ l.recv = ap (λ (t : Tied L F). t.recv) r.noted in
      record {
        batch = l.left;
        took = inl (subst (λ (q : Receiver L F). Takes letter tag_of fits l.left k.recv q) (sym recv) f.took);
        done = r.done;
        last = r.last ∷ [];
        one = omega arith;
        parts = r.parts;
        whole = λ e. absurd (let z = ap length e in omega arith);
        ran = ap (λ (t : Tied L F). t.ran) r.noted ∙ ap (λ (t : Tied L F). t.ran ++ map tag_of (r.done ++ r.last ∷ [])) f.rest;
        after_run = r.after_run;
        run_each = subst (λ (s : Flow L F M B). RunsAll runs now r.done s r.after_run) (λ i. record { body = b; acts = begun_is i; ends = (f.rest i).ends }) r.run_each;
      }

  -- all that was taken was run
  pub stops_ran : (now : ℕ) (k l m : Tied L F) (a a1 c : ActsEnd M) (b d : B) (worked : Bool) → Fills letter tag_of fits k l → a1 ≡ record a { pollers = begun now a.pollers } → RanBatch tag_of runs now worked l m a1 c b d → StopsParts tag_of runs letter fits now k m a b
  stops_ran now k l m a a1 c b d worked f begun_is r =
      let recv : m.recv ≡ l.recv = ap (λ (t : Tied L F). t.recv) r.noted in
      let left : m.left ≡ [] = ap (λ (t : Tied L F). t.left) r.noted in
      record {
        batch = l.left;
        took = inl (subst (λ (q : Receiver L F). Takes letter tag_of fits l.left k.recv q) (sym recv) f.took);
        done = r.run;
        last = [];
        one = omega arith;
        parts = r.all ∙ sym (append-nil r.run) ∙ sym (append-nil (r.run ++ [])) ∙ ap (λ ls. (r.run ++ []) ++ ls) (sym left);
        whole = λ e. left;
        ran = ap (λ (t : Tied L F). t.ran) r.noted ∙ (λ i. (f.rest i).ran ++ map tag_of (sym (append-nil r.run) i));
        after_run = flow_tied m c d;
        run_each = subst (λ (s : Flow L F M B). RunsAll runs now r.run s (flow_tied m c d)) (λ i. record { body = b; acts = begun_is i; ends = (f.rest i).ends }) r.each;
      }

  -- and then some sends were made
  pub stops_sent : (now : ℕ) (k l m : Tied L F) (a : ActsEnd M) (b : B) → StopsParts tag_of runs letter fits now k l a b → IsSending l m → StopsParts tag_of runs letter fits now k m a b
  stops_sent now k l m a b s i =
      let recv : m.recv ≡ l.recv = ap (λ (t : Tied L F). t.recv) i.rest in
      let left : m.left ≡ l.left = ap (λ (t : Tied L F). t.left) i.rest in
      record {
        batch = s.batch;
        took = subst (λ (q : Receiver L F). Takes letter tag_of fits s.batch k.recv q ⊎ ((s.batch ≡ []) × (q ≡ k.recv))) (sym recv) s.took;
        done = s.done;
        last = s.last;
        one = s.one;
        parts = s.parts ∙ ap (λ ls. (s.done ++ s.last) ++ ls) (sym left);
        whole = λ e. left ∙ s.whole e;
        ran = ap (λ (t : Tied L F). t.ran) i.rest ∙ s.ran;
        after_run = s.after_run;
        run_each = s.run_each;
      }

  -- the poll was stopped while it made its sends
  module _ (marked : L → ℕ → ℕ → L) (ticks : ℕ → ℕ → Work → Doing M B → Doing M B → Type 0) (takes_back : ℕ → L → Doing M B → Doing M B → Type 0) where
    parts_until : (now : ℕ) (k l m n : Tied L F) (a a1 a2 a3 a4 c : ActsEnd M) (b b2 b3 b4 d : B) (worked active timed : Bool) (why : Stop) → Fills letter tag_of fits k l → a1 ≡ record a { pollers = begun now a.pollers }
        → RanBatch tag_of runs now worked l m a1 a2 b b2 → CalledActive ticks now active m a2 a3 b2 b3 → CalledTimed ticks now timed m a3 a4 b3 b4 → PostsUntil letter marked takes_back m n a4 c b4 d why → IsSending m n
        → PartsUntil letter tag_of fits marked runs ticks takes_back now k n a c b d why
    parts_until now k l m n a a1 a2 a3 a4 c b b2 b3 b4 d worked active timed why f begun_is r act tim p same =
        let recv : n.recv ≡ l.recv = ap (λ (t : Tied L F). t.recv) same.rest ∙ ap (λ (t : Tied L F). t.recv) r.noted in
        let thread : m.thread ≡ k.thread = ap (λ (t : Tied L F). t.thread) r.noted ∙ ap (λ (t : Tied L F). t.thread) f.rest in
        let first : Flow L F M B = flow_tied k (record a { pollers = begun now a.pollers }) b in
        let start : flow_tied l a1 b ≡ first = λ i. record { body = b; acts = begun_is i; ends = (f.rest i).ends } in
        record {
          batch = l.left;
          took = subst (λ (q : Receiver L F). Takes letter tag_of fits l.left k.recv q) (sym recv) f.took;
          ran = ap (λ (t : Tied L F). t.ran) same.rest ∙ ap (λ (t : Tied L F). t.ran) r.noted ∙ (λ i. (f.rest i).ran ++ map tag_of (sym r.all i));
          none_left = ap (λ (t : Tied L F). t.left) same.rest ∙ ap (λ (t : Tied L F). t.left) r.noted;
          after_run = flow_tied m a2 b2;
          active = act.calls;
          after_active = flow_tied m a3 b3;
          timed = tim.calls;
          after_timed = flow_tied m a4 b4;
          returned = p.returned;
          run_each = subst (λ xs. RunsAll runs now xs first (flow_tied m a2 b2)) (sym r.all) (subst (λ (s : Flow L F M B). RunsAll runs now r.run s (flow_tied m a2 b2)) start r.each);
          call_active = act.each;
          call_timed = tim.each;
          send_some = subst (λ t. SendsUntil t letter marked takes_back (Some why) p.returned (flow_tied m a4 b4) (flow_tied n c d)) thread p.sends;
        }

    pub came_sending : (now : ℕ) (k l m n : Tied L F) (a a1 a2 a3 a4 c : ActsEnd M) (b b2 b3 b4 d : B) (worked active timed : Bool) (why : Stop) → Fills letter tag_of fits k l → a1 ≡ record a { pollers = begun now a.pollers }
        → RanBatch tag_of runs now worked l m a1 a2 b b2 → CalledActive ticks now active m a2 a3 b2 b3 → CalledTimed ticks now timed m a3 a4 b3 b4 → PostsUntil letter marked takes_back m n a4 c b4 d why → IsSending m n
        → CameToParts letter tag_of fits marked runs ticks takes_back now k n a c b d why
    came_sending now k l m n a a1 a2 a3 a4 c b b2 b3 b4 d worked active timed stop.NoMemory f begun_is r act tim p same =
        inr (parts_until now k l m n a a1 a2 a3 a4 c b b2 b3 b4 d worked active timed stop.NoMemory f begun_is r act tim p same)
    came_sending now k l m n a a1 a2 a3 a4 c b b2 b3 b4 d worked active timed (stop.Spent to count) f begun_is r act tim p same =
        parts_until now k l m n a a1 a2 a3 a4 c b b2 b3 b4 d worked active timed (stop.Spent to count) f begun_is r act tim p same

-- behind the first list stands the second
get_or-append_right : {X : Type 0} (xs ys : List X) (d : X) (k : ℕ) → slice_index_or (xs ++ ys) (length xs + k) d ≡ slice_index_or ys k d
get_or-append_right [] ys d k = ap (λ n. slice_index_or ys n d) (omega arith)
get_or-append_right (x ∷ xs) ys d k =
    let next : length (x ∷ xs) + k ≡ suc (length xs + k) = omega arith in
    ap (λ n. slice_index_or ((x ∷ xs) ++ ys) n d) next ∙ get_or-append_right xs ys d k

-- whether a message was run or a poller found work
pub worked_any : (r a t : Bool) (size : ℕ) (active timed : List Tick) → (IsTrue r ↔ (1 ≤ size)) → (IsTrue a ↔ Any WasBusy active) → (IsTrue t ↔ Any WasBusy timed)
    → IsTrue ((r || a) || t) ↔ ((1 ≤ size) ⊎ Any WasBusy (active ++ timed))
worked_any r a t size active timed ran act tim = (there r a t ran.0 act.0 tim.0, back)
  where
    low : Any WasBusy active → Any WasBusy (active ++ timed)
    low h = (h.0, h.1, (let x = h.2 in let y = length-append active timed in omega arith), get_or-append active timed h.1 h.0 h.2 ∙ h.3, h.4)

    high : Any WasBusy timed → Any WasBusy (active ++ timed)
    high h = (length active + h.0, h.1, (let x = h.2 in let y = length-append active timed in omega arith), get_or-append_right active timed h.1 h.0 ∙ h.3, h.4)

    there : (r a t : Bool) → (IsTrue r → 1 ≤ size) → (IsTrue a → Any WasBusy active) → (IsTrue t → Any WasBusy timed) → IsTrue ((r || a) || t) → (1 ≤ size) ⊎ Any WasBusy (active ++ timed)
    there true a t x y z e = inl (x refl)
    there false true t x y z e = inr (low (y refl))
    there false false t x y z e = inr (high (z e))

    or_first : (r a t : Bool) → IsTrue r → IsTrue ((r || a) || t)
    or_first true a t e = refl
    or_first false a t e = absurd (false≢true e)

    or_second : (r a t : Bool) → IsTrue a → IsTrue ((r || a) || t)
    or_second true a t e = refl
    or_second false true t e = refl
    or_second false false t e = absurd (false≢true e)

    or_third : (r a t : Bool) → IsTrue t → IsTrue ((r || a) || t)
    or_third true a t e = refl
    or_third false true t e = refl
    or_third false false t e = e

    some : Any WasBusy (active ++ timed) → IsTrue ((r || a) || t)
    some h =
        let within = h.2 in
        let long = length-append active timed in
        ⊎_elim
        (λ below. or_second r a t (act.1 (h.0, h.1, below, sym (get_or-append active timed h.1 h.0 below) ∙ h.3, h.4)))
        (λ above. (let at : h.0 ≡ length active + (h.0 - length active) = omega arith in
        let is = sym (get_or-append_right active timed h.1 (h.0 - length active)) ∙ ap (λ n. slice_index_or (active ++ timed) n h.1) (sym at) ∙ h.3 in
        or_third r a t (tim.1 (h.0 - length active, h.1, omega arith, is, h.4))))
        (cases_lt h.0 (length active))

    back : (1 ≤ size) ⊎ Any WasBusy (active ++ timed) → IsTrue ((r || a) || t)
    back (inl x) = or_first r a t (ran.1 x)
    back (inr h) = some h
