-- What a poll keeps while it calls the body.
use Rattle.std.proofs.Common.{◌≡◌, ℕ, ◌+◌, ◌≤◌, Bool, true, false, List, [], ◌∷◌, ◌++◌, length, map, refl, sym, ap, subst, ◌∙◌, arith, append_assoc, Any, ⊎_elim, Ok, Err}
use Rattle.std.specs.Prelude.{slice_index_or, ◌||◌, ◌↔◌, IsTrue, OnErr}
use Rattle.std.specs.declared.result.Result.{Result}
use Rattle.std.proofs.lemmas.List.{append-nil, length_push, length-take, map-append}
use Rattle.std.proofs.lemmas.List.Quantifiers.{Any-push}
use Rattle.std.proofs.lemmas.Bool.{cases_lt, false≢true}
use Rattle.std.proofs.Math.ListN.{get_or-append}
use Rattle.std.proofs.Math.Seq.{get_or-append_seam}
use Rattle.lw_base.specs.declared.message.Tag.{Tag}
use Rattle.lw_poller.specs.LocalDue.{IsNextActive, IsNextTimed, NoneActive, NoneDue}
use Rattle.lw_poller.specs.Changes.{GivesActive, GivesTimed}
use Rattle.lw_thread.specs.declared.body.Work.{Work}
use Rattle.lw_thread.specs.Acts.{Known, Asks, Post, ActsEnd, Doing, AllFit, asks_of, letters, and_run}
use Rattle.lw_thread.specs.Calls.{AreOf, IsToRun, Adds}
use Rattle.lw_thread.specs.Links.{Tied, known_tied, Nexts}
use Rattle.lw_thread.specs.Polls.{Flow, Tick, RunsAll, TicksActive, TicksTimed, WasBusy, one_more}
use Rattle.lw_thread.specs.Posting.{IsGoing, RunsPart, flow_tied}
use Rattle.lw_thread.proofs.Chains.{WentActive, WentTimed, active_more, timed_more, runs_more}
use Rattle.lw_thread.proofs.Live.{counts}

module _ {L F M B : Type 0} (letter : M → L) (fits : ℕ → F → M → Type 0) (lawful : Known L F → Asks L → B → Type 0) where
  -- the pollers go on, and each live one has the number that it had
  pub going_beside : (l : Tied L F) (a b : ActsEnd M) (x : B) → IsGoing letter fits lawful l a x → b ≡ record a { pollers = b.pollers } → counts b.pollers ≡ counts a.pollers → IsGoing letter fits lawful l b x
  going_beside l a b x g rest same =
      let pending = ap (λ (q : ActsEnd M). q.pending) rest in
      let asks : asks_of letter b ≡ asks_of letter a = λ i. record { live = same i; pending = letters letter (pending i) } in
      record {
        of = record { threads = ap (λ (q : ActsEnd M). q.threads) rest ∙ g.of.threads; ran = ap (λ (q : ActsEnd M). q.ran) rest ∙ g.of.ran };
        all_fit = subst (λ (ps : List (Post M)). AllFit fits l.recv.family ps) (sym pending) g.all_fit;
        keeps = subst (λ (q : Asks L). lawful (known_tied l) q x) (sym asks) g.keeps;
      }

  -- a poller is called
  pub going_ticked : (l : Tied L F) (a c : ActsEnd M) (x y : B) → IsGoing letter fits lawful l a x
      → ((k : Known L F) → AreOf k a → lawful k (asks_of letter a) x → lawful k (asks_of letter c) y)
      → Adds a c
      → ((k : Known L F) → AreOf k a → lawful k (asks_of letter a) x → AllFit fits k.family a.pending → AllFit fits k.family c.pending)
      → IsGoing letter fits lawful l c y
  going_ticked l a c x y g keeps adds fit = record {
    of = record { threads = adds.threads ∙ g.of.threads; ran = adds.ran ∙ g.of.ran };
    all_fit = fit (known_tied l) g.of g.keeps g.all_fit;
    keeps = keeps (known_tied l) g.of g.keeps;
  }

  -- a message is run, which is noted
  pub going_run : (tag_of : L → Tag) (l m : Tied L F) (a c d : ActsEnd M) (x y : B) (message : M) → IsGoing letter fits lawful l a x
      → Nexts tag_of (letter message) l m → known_tied m ≡ and_run (known_tied l) (letter message) → IsToRun letter tag_of fits (known_tied l) message
      → ((k : Known L F) → AreOf k a → IsToRun letter tag_of fits k message → lawful k (asks_of letter a) x → lawful (and_run k (letter message)) (asks_of letter c) y)
      → Adds a c
      → ((k : Known L F) → AreOf k a → IsToRun letter tag_of fits k message → lawful k (asks_of letter a) x → AllFit fits k.family a.pending → AllFit fits k.family c.pending)
      → d ≡ record c { ran = c.ran + 1 }
      → IsGoing letter fits lawful m d y
  going_run tag_of l m a c d x y message g next known fitting keeps adds fit counted =
      let k = known_tied l in
      let more : Known L F = and_run k (letter message) in
      let long = length_push k.ran (letter message) in
      let ran = ap (λ (q : ActsEnd M). q.ran) counted in
      let was = g.of.ran in
      let added = adds.ran in
      let sent : length (known_tied m).sent ≡ length k.sent = ap (λ (q : Known L F). length q.sent) known in
      let size : length (known_tied m).ran ≡ length (k.ran ++ letter message ∷ []) = ap (λ (q : Known L F). length q.ran) known in
      let family : m.recv.family ≡ l.recv.family = ap (λ (q : Known L F). q.family) known in
      record {
        of = record { threads = ap (λ (q : ActsEnd M). q.threads) counted ∙ adds.threads ∙ g.of.threads ∙ sym sent; ran = omega arith };
        all_fit = subst (λ (ps : List (Post M)). AllFit fits m.recv.family ps) (sym (ap (λ (q : ActsEnd M). q.pending) counted))
            (subst (λ f. AllFit fits f c.pending) (sym family) (fit k g.of fitting g.keeps g.all_fit));
        keeps = subst (λ (q : Known L F). lawful q (asks_of letter d) y) (sym known)
            (subst (λ (q : ActsEnd M). lawful more (asks_of letter q) y) (sym counted) (keeps k g.of fitting g.keeps));
      }

-- whether one of the calls found work
pub busy_more : (was now : Bool) (calls : List Tick) (c : Tick) → (IsTrue was ↔ Any WasBusy calls) → (IsTrue now ↔ WasBusy c) → IsTrue (was || now) ↔ Any WasBusy (calls ++ c ∷ [])
busy_more was now calls c all one = (found was now all.0 one.0, there)
  where
    before : Any WasBusy calls → Any WasBusy (calls ++ c ∷ [])
    before a = (a.0, a.1, (let l = a.2 in let m = length_push calls c in omega arith), get_or-append calls (c ∷ []) a.1 a.0 a.2 ∙ a.3, a.4)

    found : (w n : Bool) → (IsTrue w → Any WasBusy calls) → (IsTrue n → WasBusy c) → IsTrue (w || n) → Any WasBusy (calls ++ c ∷ [])
    found true n f h t = before (f refl)
    found false n f h t = Any-push WasBusy calls c (h t)

    or_left : (w n : Bool) → IsTrue w → IsTrue (w || n)
    or_left true n t = refl
    or_left false n t = absurd (false≢true t)

    or_right : (w n : Bool) → IsTrue n → IsTrue (w || n)
    or_right true n t = refl
    or_right false n t = t

    there : Any WasBusy (calls ++ c ∷ []) → IsTrue (was || now)
    there a =
        let long = length_push calls c in
        let within = a.2 in
        ⊎_elim
        (λ low. or_left was now (all.1 (a.0, a.1, low, sym (get_or-append calls (c ∷ []) a.1 a.0 low) ∙ a.3, a.4)))
        (λ high. (let last : a.0 ≡ length calls = omega arith in
        let is : c ≡ a.1 = sym (get_or-append_seam calls c [] a.1) ∙ ap (λ n. slice_index_or (calls ++ c ∷ []) n a.1) (sym last) ∙ a.3 in
        or_right was now (one.1 (subst WasBusy (sym is) a.4))))
        (cases_lt a.0 (length calls))

module _ {L F M B : Type 0} (ticks : ℕ → ℕ → Work → Doing M B → Doing M B → Type 0) where
  -- one call more
  pub step_active : (now : ℕ) (calls : List Tick) (s : Flow L F M B) (l : Tied L F) (a b c : ActsEnd M) (x y : B) (poller : ℕ) (w : Work)
      → WentActive ticks now calls s (flow_tied l a x)
      → (place : ℕ) × IsNextActive a.pollers place × GivesActive place poller a.pollers b.pollers
      → b ≡ record a { pollers = b.pollers }
      → ticks poller now w (record { body = x; acts = b }) (record { body = y; acts = c })
      → Adds b c
      → WentActive ticks now (calls ++ record { poller = poller; work = w } ∷ []) s (flow_tied l c y)
  step_active now calls s l a b c x y poller w went next rest does adds =
      active_more ticks now calls (record { poller = poller; work = w }) s (flow_tied l a x) next.0 b.pollers (record { body = y; acts = c }) went next.1 next.2
      (subst (λ (q : ActsEnd M). ticks poller now w (record { body = x; acts = q }) (record { body = y; acts = c })) rest does)
      (subst (λ (q : ActsEnd M). Adds q c) rest adds)

  pub step_timed : (now : ℕ) (calls : List Tick) (s : Flow L F M B) (l : Tied L F) (a b c : ActsEnd M) (x y : B) (poller : ℕ) (w : Work)
      → WentTimed ticks now calls s (flow_tied l a x)
      → (place : ℕ) × IsNextTimed a.pollers place × GivesTimed place poller a.pollers b.pollers
      → b ≡ record a { pollers = b.pollers }
      → ticks poller now w (record { body = x; acts = b }) (record { body = y; acts = c })
      → Adds b c
      → WentTimed ticks now (calls ++ record { poller = poller; work = w } ∷ []) s (flow_tied l c y)
  step_timed now calls s l a b c x y poller w went next rest does adds =
      timed_more ticks now calls (record { poller = poller; work = w }) s (flow_tied l a x) next.0 b.pollers (record { body = y; acts = c }) went next.1 next.2
      (subst (λ (q : ActsEnd M). ticks poller now w (record { body = x; acts = q }) (record { body = y; acts = c })) rest does)
      (subst (λ (q : ActsEnd M). Adds q c) rest adds)

  -- there is no further one
  pub end_active : (now : ℕ) (calls : List Tick) (s : Flow L F M B) (l : Tied L F) (a b : ActsEnd M) (x : B) → WentActive ticks now calls s (flow_tied l a x) → NoneActive a.pollers → b ≡ a → TicksActive ticks now calls s (flow_tied l b x)
  end_active now calls s l a b x went none same = subst (λ cs. TicksActive ticks now cs s (flow_tied l b x)) (append-nil calls) (went [] (flow_tied l b x) (none, ap (λ (q : ActsEnd M). flow_tied l q x) same))

  pub end_timed : (now : ℕ) (calls : List Tick) (s : Flow L F M B) (l : Tied L F) (a b : ActsEnd M) (x : B) → WentTimed ticks now calls s (flow_tied l a x) → NoneDue a.pollers → b ≡ a → TicksTimed ticks now calls s (flow_tied l b x)
  end_timed now calls s l a b x went none same = subst (λ cs. TicksTimed ticks now cs s (flow_tied l b x)) (append-nil calls) (went [] (flow_tied l b x) (none, ap (λ (q : ActsEnd M). flow_tied l q x) same))

-- some messages of a batch were run, and one more
pub part_left : {L F : Type 0} (tag_of : L → Tag) (k l m : Tied L F) (run : List L) (x : L) → k.left ≡ run ++ l.left → Nexts tag_of x l m → k.left ≡ (run ++ x ∷ []) ++ m.left
part_left tag_of k l m run x parts next = parts ∙ ap (λ ls. run ++ ls) next.first ∙ sym (append_assoc run (x ∷ []) m.left)

pub part_noted : {L F : Type 0} (tag_of : L → Tag) (k l m : Tied L F) (run : List L) (x : L) → l ≡ record k { ran = k.ran ++ map tag_of run; left = l.left } → Nexts tag_of x l m → m ≡ record k { ran = k.ran ++ map tag_of (run ++ x ∷ []); left = m.left }
part_noted {L} {F} tag_of k l m run x noted next =
    let log : l.ran ++ tag_of x ∷ [] ≡ k.ran ++ map tag_of (run ++ x ∷ []) =
    ap (λ (t : Tied L F). t.ran ++ tag_of x ∷ []) noted ∙ append_assoc k.ran (map tag_of run) (tag_of x ∷ []) ∙ ap (λ ts. k.ran ++ ts) (sym (map-append tag_of run (x ∷ []))) in
    next.ran ∙ (λ i. record { thread = (noted i).thread; recv = (noted i).recv; ends = (noted i).ends; ran = log i; left = m.left })

-- a message of the batch was run, and its handler stopped
pub part_run : {L F M B : Type 0} (tag_of : L → Tag) (runs : L → ℕ → Doing M B → Doing M B → Type 0) (now : ℕ) (run : List L) (x : L) (k l m : Tied L F) (a b : ActsEnd M) (c d : B)
    → k.left ≡ (run ++ x ∷ []) ++ m.left → m ≡ record k { ran = k.ran ++ map tag_of (run ++ x ∷ []); left = m.left } → RunsAll runs now run (flow_tied k a c) (flow_tied l b d) → RunsPart tag_of runs now k m a c
part_run tag_of runs now run x k l m a b c d parts noted each = record { done = run; last = x; parts = parts; noted = noted; after_run = flow_tied l b d; run_each = each }

-- what holds anyway holds where a call failed
pub on_error : {T E X : Type 0} (r : Result T E) → X → OnErr r X
on_error (Ok t) x = tt
on_error (Err e) x = x

-- what is known as run is no longer than the log
pub taken_count : {L F : Type 0} (l : Tied L F) → length (known_tied l).ran ≤ length l.ran
taken_count l = let e = length-take (length l.ran) l.recv.taken in omega arith

-- one message more is run
pub run_step : {L F M B : Type 0} (runs : L → ℕ → Doing M B → Doing M B → Type 0) (tag_of : L → Tag) (now : ℕ) (run : List L) (x : L) (s : Flow L F M B) (l m : Tied L F) (a c d : ActsEnd M) (b y : B)
    → RunsAll runs now run s (flow_tied l a b) → Nexts tag_of x l m → runs x now (record { body = b; acts = a }) (record { body = y; acts = c }) → Adds a c → d ≡ record c { ran = c.ran + 1 }
    → RunsAll runs now (run ++ x ∷ []) s (flow_tied m d y)
run_step {L} {F} {M} {B} runs tag_of now run x s l m a c d b y each next does adds counted =
    let is : flow_tied m d y ≡ record { body = y; acts = one_more c; ends = l.ends } = λ i. record { body = y; acts = counted i; ends = (next.ran i).ends } in
    subst (λ (t : Flow L F M B). RunsAll runs now (run ++ x ∷ []) s t) (sym is) (runs_more runs now run x s (flow_tied l a b) (record { body = y; acts = c }) each does adds)
