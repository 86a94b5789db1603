-- The chains of a poll grow at their end.
use Rattle.std.proofs.Common.{◌≡◌, ℕ, ◌+◌, ◌<◌, ◌≤◌, Bool, true, false, List, [], ◌∷◌, ◌++◌, length, map, refl, sym, ap, subst, ◌∙◌, arith, append_assoc, All, length-set, get_or-set_same, get_or-set_other, Option, Some, None, ◌≢◌}
use Rattle.std.specs.Prelude.{slice_index_or, slice_set}
use Rattle.std.proofs.lemmas.List.{append-nil, length_push}
use Rattle.std.proofs.lemmas.List.Elements.{All-head, All-tail}
use Rattle.std.proofs.Math.Logic.{dite}
use native.Mathlib.Decide.{ℕ_discrete}
use Rattle.lw_latch.specs.RingWord.{most_sent}
use Rattle.lw_ring.specs.Ends.{Sender}
use Rattle.lw_poller.specs.Pollers.{Pollers}
use Rattle.lw_poller.specs.LocalDue.{IsNextActive, IsNextTimed}
use Rattle.lw_poller.specs.Changes.{GivesActive, GivesTimed}
use Rattle.lw_thread.specs.declared.body.Work.{Work}
use Rattle.lw_thread.specs.declared.stop.Stop.{Stop}
use Rattle.lw_thread.specs.declared.stop.Stop.TheVariants as stop
use Rattle.lw_thread.specs.Acts.{Post, ActsEnd, Doing}
use Rattle.lw_thread.specs.Calls.{Adds}
use Rattle.lw_thread.specs.Links.{marked_from}
use Rattle.lw_thread.specs.Polls.{Flow, Tick, RunsAll, TicksActive, TicksTimed, SendsUntil, FindMore, IsReturned, doing, with_doing, with_pollers, with_pending, one_more}
use Rattle.lw_thread.proofs.Counting.{set_same, set_twice, at_set_here}

-- as many sends as these were accepted
abbrev pub accepted : {M : Type 0} → List (Post M) → List Bool
accepted [] = []
accepted (p ∷ ps) = false ∷ accepted ps

-- one end has found its ring closed more often
pub find_set : {L F : Type 0} (es : List (Sender L F)) (to : ℕ) (end : Sender L F) (n : ℕ) → ((d : Sender L F) → slice_index_or es to d ≡ end) → end.found ≤ n → FindMore es (slice_set es to (record end { found = n }))
find_set {L} {F} es to end n at more =
    let e2 : Sender L F = record end { found = n } in (
      length-set es to e2,
      λ k d within. dite (ℕ_discrete k to)
          (λ (is : k ≡ to).
          (let was : slice_index_or es k d ≡ end = ap (λ i. slice_index_or es i d) is ∙ at d in
          let less = ap (λ (e : Sender L F). e.found) was in (
            n,
            omega arith,
            ap (λ i. slice_index_or (slice_set es to e2) i d) is ∙ get_or-set_same es to e2 d (subst (λ i. i < length es) is within) ∙ (λ i. record (sym was i) { found = n }),
          )))
          (λ (other : k ≢ to). ((slice_index_or es k d).found, omega arith, get_or-set_other es to k e2 d other)),
    )

pub find_none : {L F : Type 0} (es : List (Sender L F)) → FindMore es es
find_none {L} {F} es = (refl, λ k d within. ((slice_index_or es k d).found, omega arith, refl))

-- one after the other
find_both : {L F : Type 0} (es fs gs : List (Sender L F)) → FindMore es fs → FindMore fs gs → FindMore es gs
find_both {L} {F} es fs gs a b = (
  b.0 ∙ a.0,
  λ k d within.
      (let one = a.1 k d within in
      let two = b.1 k d (subst (λ n. k < n) (sym a.0) within) in
      let less = ap (λ (e : Sender L F). e.found) one.2 in
      let more = one.1 in
      let most = two.1 in (
        two.0,
        omega arith,
        two.2 ∙ ap (λ (e : Sender L F). record e { found = two.0 }) one.2,
      )),
)

module _ {L F M B : Type 0} where
  -- one message more is run
  module _ (runs : L → ℕ → Doing M B → Doing M B → Type 0) where
    abbrev pub after : Flow L F M B → Doing M B → Flow L F M B
    after s u = with_doing s (record u { acts = one_more u.acts })

    pub runs_more : (now : ℕ) (xs : List L) (x : L) (s t : Flow L F M B) (u : Doing M B) → RunsAll runs now xs s t → runs x now (doing t) u → Adds t.acts u.acts → RunsAll runs now (xs ++ x ∷ []) s (after t u)
    runs_more now [] x s t u h r a = (u, subst (λ (v : Flow L F M B). runs x now (doing v) u) h r, subst (λ (v : Flow L F M B). Adds v.acts u.acts) h a, ap (λ (v : Flow L F M B). after v u) h)
    runs_more now (y ∷ ys) x s t u h r a = (h.0, h.1, h.2, runs_more now ys x (after s h.0) t u h.3 r a)

  -- Some calls were made, from s to t, where any that follow from t on follow these from s on.
  module _ (ticks : ℕ → ℕ → Work → Doing M B → Doing M B → Type 0) where
    abbrev pub WentActive : ℕ → List Tick → Flow L F M B → Flow L F M B → Type 0
    WentActive now done s t = (cs : List Tick) (v : Flow L F M B) → TicksActive ticks now cs t v → TicksActive ticks now (done ++ cs) s v

    abbrev pub WentTimed : ℕ → List Tick → Flow L F M B → Flow L F M B → Type 0
    WentTimed now done s t = (cs : List Tick) (v : Flow L F M B) → TicksTimed ticks now cs t v → TicksTimed ticks now (done ++ cs) s v

    -- one call more
    pub active_more : (now : ℕ) (done : List Tick) (c : Tick) (s t : Flow L F M B) (place : ℕ) (ps : Pollers) (u : Doing M B)
        → WentActive now done s t → IsNextActive t.acts.pollers place → GivesActive place c.poller t.acts.pollers ps → ticks c.poller now c.work (doing (with_pollers t ps)) u → Adds (with_pollers t ps).acts u.acts
        → WentActive now (done ++ c ∷ []) s (with_doing t u)
    active_more now done c s t place ps u went next gives does adds = λ cs v h. subst (λ l. TicksActive ticks now l s v) (sym (append_assoc done (c ∷ []) cs)) (went (c ∷ cs) v (place, next, ps, gives, u, does, adds, h))

    pub timed_more : (now : ℕ) (done : List Tick) (c : Tick) (s t : Flow L F M B) (place : ℕ) (ps : Pollers) (u : Doing M B)
        → WentTimed now done s t → IsNextTimed t.acts.pollers place → GivesTimed place c.poller t.acts.pollers ps → ticks c.poller now c.work (doing (with_pollers t ps)) u → Adds (with_pollers t ps).acts u.acts
        → WentTimed now (done ++ c ∷ []) s (with_doing t u)
    timed_more now done c s t place ps u went next gives does adds = λ cs v h. subst (λ l. TicksTimed ticks now l s v) (sym (append_assoc done (c ∷ []) cs)) (went (c ∷ cs) v (place, next, ps, gives, u, does, adds, h))

  module _ (thread : ℕ) (letter : M → L) (marked : L → ℕ → ℕ → L) (takes_back : ℕ → L → Doing M B → Doing M B → Type 0) where
    abbrev pub Went : List Bool → Flow L F M B → Flow L F M B → Type 0
    Went done s t = (why : Option Stop) (bs : List Bool) (v : Flow L F M B) → SendsUntil thread letter marked takes_back why bs t v → SendsUntil thread letter marked takes_back why (done ++ bs) s v

    pub none_went : (s : Flow L F M B) → Went [] s s
    none_went s = λ why bs v h. h

    -- one send comes back, and the body takes it
    pub back_more : (done : List Bool) (s t : Flow L F M B) (p : Post M) (rest : List (Post M)) (es : List (Sender L F)) (u : Doing M B)
        → Went done s t → t.acts.pending ≡ p ∷ rest → IsReturned thread letter marked takes_back p t.ends es → takes_back p.to (letter p.what) (doing (with_pending t [])) u → Adds (with_pending t []).acts u.acts
        → Went (done ++ true ∷ []) s (record { body = u.body; acts = record u.acts { pending = u.acts.pending ++ rest }; ends = es })
    back_more done s t p rest es u went is came does adds = λ why bs v h. subst (λ l. SendsUntil thread letter marked takes_back why l s v) (sym (append_assoc done (true ∷ []) bs)) (went why (true ∷ bs) v (p, rest, is, es, came, u, does, adds, h))

    -- sends that stand next to each other and go to one receiver are made
    pub many_made : (why : Option Stop) (to : ℕ) (posts behind : List (Post M)) (es : List (Sender L F)) (end : Sender L F) (b : B) (a : ActsEnd M) (bs : List Bool) (v : Flow L F M B)
        → to < length es → ((d : Sender L F) → slice_index_or es to d ≡ end) → end.found ≡ 0 → length end.sent + length posts ≤ most_sent → All (λ (p : Post M). p.to ≡ to) posts
        → SendsUntil thread letter marked takes_back why bs (record { body = b; acts = record a { pending = behind }; ends = slice_set es to (record end { sent = end.sent ++ marked_from marked thread (length end.sent) (map (λ (p : Post M). letter p.what) posts) }) }) v
        → SendsUntil thread letter marked takes_back why (accepted posts ++ bs) (record { body = b; acts = record a { pending = posts ++ behind }; ends = es }) v
    many_made why to [] behind es end b a bs v within at free room all h =
        let same : slice_set es to (record end { sent = end.sent ++ [] }) ≡ es = ap (λ ls. slice_set es to (record end { sent = ls })) (append-nil end.sent) ∙ set_same es to end at in
        subst (λ (l : List (Sender L F)). SendsUntil thread letter marked takes_back why bs (record { body = b; acts = record a { pending = behind }; ends = l }) v) same h
    many_made why to (p ∷ ps) behind es end b a bs v within at free room all h =
        let P = λ (q : Post M). q.to ≡ to in
        let here = All-head P p ps all in
        let x = marked (letter p.what) thread (length end.sent) in
        let end1 : Sender L F = record end { sent = end.sent ++ x ∷ [] } in
        let es1 : List (Sender L F) = slice_set es to end1 in
        let more : List L = marked_from marked thread (length end.sent + 1) (map (λ (q : Post M). letter q.what) ps) in
        let long : length end1.sent ≡ length end.sent + 1 = length_push end.sent x in
        let letters : end1.sent ++ marked_from marked thread (length end1.sent) (map (λ (q : Post M). letter q.what) ps) ≡ end.sent ++ x ∷ more =
        ap (λ n. end1.sent ++ marked_from marked thread n (map (λ (q : Post M). letter q.what) ps)) long ∙ append_assoc end.sent (x ∷ []) more in
        let ends : slice_set es1 to (record end1 { sent = end1.sent ++ marked_from marked thread (length end1.sent) (map (λ (q : Post M). letter q.what) ps) }) ≡ slice_set es to (record end { sent = end.sent ++ x ∷ more }) =
        set_twice es to end1 _ ∙ ap (λ ls. slice_set es to (record end { sent = ls })) letters in
        let rest = many_made why to ps behind es1 end1 b a bs v (within_set within) (λ d. at_set_here es to end1 d within) free (omega arith) (All-tail P p ps all)
        (subst (λ (l : List (Sender L F)). SendsUntil thread letter marked takes_back why bs (record { body = b; acts = record a { pending = behind }; ends = l }) v) (sym ends) h) in (
          p,
          ps ++ behind,
          refl,
          es1,
          record { end = end; to = λ d. ap (λ n. slice_index_or es n d) here ∙ at d; room = omega arith; not_exited = free; sent = ap (λ n. slice_set es n end1) (sym here) },
          rest,
        )
      where
        within_set : to < length es → to < length (slice_set es to (record end { sent = end.sent ++ marked (letter p.what) thread (length end.sent) ∷ [] }))
        within_set l = subst (λ n. to < n) (sym (length-set es to _)) l

    -- an end has found its ring closed, and the first send goes there: the sends are those from before it had
    pub found_before : (why : Option Stop) (to n : ℕ) (es : List (Sender L F)) (end : Sender L F) (p : Post M) (rest : List (Post M)) (b : B) (a : ActsEnd M) (bs : List Bool) (v : Flow L F M B)
        → to < length es → ((d : Sender L F) → slice_index_or es to d ≡ end) → end.found ≤ n → 1 ≤ n → a.pending ≡ p ∷ rest → p.to ≡ to
        → SendsUntil thread letter marked takes_back why bs (record { body = b; acts = a; ends = slice_set es to (record end { found = n }) }) v
        → SendsUntil thread letter marked takes_back why bs (record { body = b; acts = a; ends = es }) v
    found_before None to n es end p rest b a [] v within at more some is here h = absurd (let l = ap length (sym is ∙ h.0) in omega arith)
    found_before (Some stop.NoMemory) to n es end p rest b a [] v within at more some is here h =
        record { to = h.to; next = h.next; rest = h.rest; pending = h.pending; its_end = h.its_end; before = h.before; unsent = h.unsent; ends = find_both es (slice_set es to (record end { found = n })) v.ends (find_set es to end n at more) h.ends }
    found_before (Some (stop.Spent t c)) to n es end p rest b a [] v within at more some is here h =
        record { next = h.next; rest = h.rest; pending = h.pending; its_end = h.its_end; unsent = h.unsent; body = h.body; acts = h.acts; ends = find_both es (slice_set es to (record end { found = n })) v.ends (find_set es to end n at more) h.ends }
    found_before why to n es end p rest b a (false ∷ bs) v within at more some is here h =
        let q = h.0 in
        let k = h.4 in
        absurd (not_open (ap (λ (l : List (Post M)). first_or q l) (sym is ∙ h.2)) k.to k.not_exited)
      where
        first_or : Post M → List (Post M) → Post M
        first_or q [] = q
        first_or q (x ∷ xs) = x

        not_open : {q : Post M} {e : Sender L F} → p ≡ q → ((d : Sender L F) → slice_index_or (slice_set es to (record end { found = n })) q.to d ≡ e) → e.found ≡ 0 → ⊥
        not_open {q} {e} same told none =
            let there : slice_index_or (slice_set es to (record end { found = n })) to end ≡ record end { found = n } = at_set_here es to (record end { found = n }) end within in
            let mine : q.to ≡ to = ap (λ (x : Post M). x.to) (sym same) ∙ here in
            let it : record end { found = n } ≡ e = sym there ∙ ap (λ i. slice_index_or (slice_set es to (record end { found = n })) i end) (sym mine) ∙ told end in
            let f = ap (λ (x : Sender L F). x.found) it in
            omega arith
    found_before why to n es end p rest b a (true ∷ bs) v within at more some is here h =
        let q = h.0 in
        let r = h.4 in
        let mine : q.to ≡ to = ap (λ (x : Post M). x.to) (sym (ap (λ (l : List (Post M)). first_or q l) (sym is ∙ h.2))) ∙ here in
        let now : record end { found = n } ≡ r.end = sym (at_set_here es to (record end { found = n }) end within) ∙ ap (λ i. slice_index_or (slice_set es to (record end { found = n })) i end) (sym mine) ∙ r.to end in
        let same : h.3 ≡ slice_set es q.to (record end { found = r.found }) =
        r.same ∙ (λ i. slice_set (slice_set es to (record end { found = n })) (mine i) (record (sym now i) { found = r.found })) ∙ set_twice es to (record end { found = n }) (record end { found = r.found }) ∙ ap (λ i. slice_set es i (record end { found = r.found })) (sym mine) in
        let less = ap (λ (x : Sender L F). x.found) now in (
          q,
          h.1,
          h.2,
          h.3,
          record { end = end; to = λ d. ap (λ i. slice_index_or es i d) mine ∙ at d; found = r.found; closed = r.closed; no_less = (let l = r.no_less in omega arith); same = same },
          h.5,
          h.6,
          h.7,
          h.8,
        )
      where
        first_or : Post M → List (Post M) → Post M
        first_or q [] = q
        first_or q (x ∷ xs) = x
