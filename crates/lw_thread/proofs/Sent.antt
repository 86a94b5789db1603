-- The chain of sends grows by a send, a run or what comes back.
use Rattle.std.proofs.Common.{◌≡◌, ℕ, ◌+◌, ◌<◌, ◌≤◌, Bool, true, false, List, [], ◌∷◌, ◌++◌, length, map, refl, sym, ap, subst, ◌∙◌, arith, append_assoc, All, inl, inr, Option, Some, None}
use Rattle.std.specs.Prelude.{slice_index_or, slice_set, ◌⊎◌}
use Rattle.std.proofs.lemmas.List.{map-append, length-map, get_or_default, nil_from_length}
use Rattle.std.proofs.lemmas.List.Elements.{All-head, All-tail}
use Rattle.lw_ring.specs.Ends.{Sender}
use Rattle.lw_thread.specs.Acts.{Post, ActsEnd, Doing, letters}
use Rattle.lw_thread.specs.Sending.{first_to}
use Rattle.lw_thread.specs.Links.{Tied, marked_from}
use Rattle.lw_thread.specs.declared.stop.Stop.{Stop}
use Rattle.lw_thread.specs.declared.stop.Stop.TheVariants as stop
use Rattle.lw_thread.specs.Polls.{Flow, SendsUntil, IsReturned}
use Rattle.lw_thread.specs.Posting.{IsSending, TakesBack, SendsFirst, AreMade, ComeBack, flow_tied}
use Rattle.lw_thread.proofs.Chains.{Went, accepted, back_more, many_made, found_before}
use Rattle.lw_thread.proofs.Counting.{set_same}
use Rattle.lw_thread.proofs.Making.{first_to_step}

-- as many letters are marked as there are
marked_count : {L : Type 0} (marked : L → ℕ → ℕ → L) (thread number : ℕ) (xs : List L) → length (marked_from marked thread number xs) ≡ length xs
marked_count marked thread number [] = refl
marked_count marked thread number (x ∷ xs) = let r = marked_count marked thread (number + 1) xs in omega arith

-- posts to one receiver are the same as their letters are
pub posts_same : {M L : Type 0} (letter : M → L) (to : ℕ) (xs ys : List (Post M)) → map (λ (p : Post M). letter p.what) xs ≡ map (λ (p : Post M). letter p.what) ys → All (λ (p : Post M). p.to ≡ to) xs → All (λ (p : Post M). p.to ≡ to) ys → letters letter xs ≡ letters letter ys
posts_same {M} {L} letter to xs ys e h i = all_there xs h ∙ ap (λ ls. map (λ (x : L). record { to = to; what = x }) ls) e ∙ sym (all_there ys i)
  where
    all_there : (zs : List (Post M)) → All (λ (p : Post M). p.to ≡ to) zs → letters letter zs ≡ map (λ (x : L). record { to = to; what = x }) (map (λ (p : Post M). letter p.what) zs)
    all_there [] h = refl
    all_there (z ∷ zs) h =
        let here = All-head (λ (p : Post M). p.to ≡ to) z zs h in
        let rest = all_there zs (All-tail (λ (p : Post M). p.to ≡ to) z zs h) in
        λ k. record { to = here k; what = letter z.what } ∷ rest k

-- the first of some posts, and the others
abbrev first_post : {L : Type 0} → Post L → List (Post L) → Post L
first_post d [] = d
first_post d (x ∷ xs) = x

abbrev rest_posts : {L : Type 0} → List (Post L) → List (Post L)
rest_posts [] = []
rest_posts (x ∷ xs) = xs

-- there are as many letters as posts
letters_count : {M L : Type 0} (letter : M → L) (ps : List (Post M)) → length (letters letter ps) ≡ length ps
letters_count letter [] = refl
letters_count letter (p ∷ ps) = let r = letters_count letter ps in omega arith

-- posts with the letters of none are none
none_same : {M L : Type 0} (letter : M → L) (ps qs : List (Post M)) → letters letter ps ≡ letters letter qs → qs ≡ [] → ps ≡ []
none_same letter ps qs e none = nil_from_length ps (let a = ap length e in let b = letters_count letter ps in let c = letters_count letter qs in let d = ap length none in omega arith)

-- and some have some
some_same : {M L : Type 0} (letter : M → L) (qs rest : List (Post M)) (q : Post M) → letters letter [] ≡ letters letter qs → qs ≡ q ∷ rest → ⊥
some_same letter qs rest q e some = absurd (let a = ap length e in let c = letters_count letter qs in let d = ap length some in omega arith)

-- the links stay, one change after the other
pub still_both : {L F : Type 0} (k l m : Tied L F) → IsSending k l → IsSending l m → IsSending k m
still_both {L} {F} k l m h i = record {
  ends = record {
    count = i.ends.count ∙ h.ends.count;
    each = λ n d within. (let one = h.ends.each n d within in let two = i.ends.each n d (subst (λ z. n < z) (sym h.ends.count) within) in
        two ∙ ap (λ (x : Sender L F). record x { sent = (slice_index_or m.ends n d).sent; found = (slice_index_or m.ends n d).found }) one);
  };
  rest = i.rest ∙ ap (λ (t : Tied L F). record t { ends = m.ends }) h.rest;
}

module _ {L F M B : Type 0} (thread : ℕ) (letter : M → L) (marked : L → ℕ → ℕ → L) (takes_back : ℕ → L → Doing M B → Doing M B → Type 0) where
  abbrev flow : B → ActsEnd M → List (Sender L F) → List (Post M) → Flow L F M B
  flow b a es ps = record { body = b; acts = record a { pending = ps }; ends = es }

  -- The sends depend on the letters alone.
  pub sends_same : (why : Option Stop) (bs : List Bool) (b : B) (a : ActsEnd M) (es : List (Sender L F)) (ps qs : List (Post M)) (v : Flow L F M B) → letters letter ps ≡ letters letter qs
      → SendsUntil thread letter marked takes_back why bs (flow b a es qs) v → SendsUntil thread letter marked takes_back why bs (flow b a es ps) v
  sends_same None [] b a es ps qs v e h =
      let none : ps ≡ [] = none_same letter ps qs e h.0 in
      (none, h.1 ∙ ap (λ l. flow b a es l) (h.0 ∙ sym none))
  sends_same (Some stop.NoMemory) [] b a es ps qs v e h = record { to = h.to; next = h.next; rest = h.rest; pending = e ∙ h.pending; its_end = h.its_end; before = h.before; unsent = h.unsent; ends = h.ends }
  sends_same (Some (stop.Spent t c)) [] b a es [] qs v e h = absurd (some_same letter qs h.rest h.next e h.pending)
  sends_same (Some (stop.Spent t c)) [] b a es (p ∷ ps) qs v e h =
      let both : letters letter (p ∷ ps) ≡ letters letter (h.next ∷ h.rest) = e ∙ ap (letters letter) h.pending in
      let d : Post L = record { to = p.to; what = letter p.what } in
      record { next = p; rest = ps; pending = refl; its_end = ap (λ l. (first_post d l).to) both ∙ h.its_end; unsent = h.unsent ∙ sym e; body = h.body; acts = h.acts; ends = h.ends }
  sends_same why (false ∷ bs) b a es [] qs v e h = absurd (some_same letter qs h.1 h.0 e h.2)
  sends_same why (true ∷ bs) b a es [] qs v e h = absurd (some_same letter qs h.1 h.0 e h.2)
  sends_same why (false ∷ bs) b a es (p ∷ ps) qs v e h =
      let q = h.0 in
      let both : letters letter (p ∷ ps) ≡ letters letter (q ∷ h.1) = e ∙ ap (letters letter) h.2 in
      let d : Post L = record { to = p.to; what = letter p.what } in
      let one = ap (λ l. first_post d l) both in
      let more : letters letter ps ≡ letters letter h.1 = ap rest_posts both in
      let to = ap (λ (x : Post L). x.to) one in
      let what = ap (λ (x : Post L). x.what) one in
      let i = h.4 in (
        p,
        ps,
        refl,
        h.3,
        record {
          end = i.end;
          to = λ f. ap (λ n. slice_index_or es n f) to ∙ i.to f;
          room = i.room;
          not_exited = i.not_exited;
          sent = i.sent ∙ (λ k. slice_set es (sym to k) (record i.end { sent = i.end.sent ++ marked (sym what k) thread (length i.end.sent) ∷ [] }));
        },
        sends_same why bs b a h.3 ps h.1 v more h.5,
      )
  sends_same why (true ∷ bs) b a es (p ∷ ps) qs v e h =
      let q = h.0 in
      let both : letters letter (p ∷ ps) ≡ letters letter (q ∷ h.1) = e ∙ ap (letters letter) h.2 in
      let d : Post L = record { to = p.to; what = letter p.what } in
      let one = ap (λ l. first_post d l) both in
      let more : letters letter ps ≡ letters letter h.1 = ap rest_posts both in
      let to = ap (λ (x : Post L). x.to) one in
      let what = ap (λ (x : Post L). x.what) one in
      let i = h.4 in
      let u = h.5 in
      let all : letters letter (u.acts.pending ++ ps) ≡ letters letter (u.acts.pending ++ h.1) =
      map-append (λ (p : Post M). record { to = p.to; what = letter p.what }) u.acts.pending ps ∙ ap (λ l. letters letter u.acts.pending ++ l) more ∙ sym (map-append (λ (p : Post M). record { to = p.to; what = letter p.what }) u.acts.pending h.1) in (
        p,
        ps,
        refl,
        h.3,
        record {
          end = i.end;
          to = λ f. ap (λ n. slice_index_or es n f) to ∙ i.to f;
          found = i.found;
          closed = i.closed;
          no_less = i.no_less;
          same = i.same ∙ (λ k. slice_set es (sym to k) (record i.end { found = i.found }));
        },
        u,
        subst (λ (x : Post L). takes_back x.to x.what (record { body = b; acts = record a { pending = [] } }) u) (sym one) h.6,
        h.7,
        sends_same why bs u.body u.acts h.3 (u.acts.pending ++ ps) (u.acts.pending ++ h.1) v all h.8,
      )

  -- one comes back unsent, since its receiver is known to have ended
  pub step_back : (done : List Bool) (s : Flow L F M B) (l : Tied L F) (a c : ActsEnd M) (b d : B) (to : ℕ) (e : Sender L F) → Went thread letter marked takes_back done s (flow_tied l a b)
      → TakesBack letter takes_back a c b d → 1 ≤ first_to to a.pending → to < length l.ends → ((x : Sender L F) → 1 ≤ (slice_index_or l.ends to x).found)
      → Went thread letter marked takes_back (done ++ true ∷ []) s (flow_tied l c d)
  step_back done s l a c b d to e went t some within gone =
      let p = t.first in
      let step = first_to_step to p a.pending t.rest t.pending some in
      let there : p.to < length l.ends = subst (λ n. n < length l.ends) (sym step.0) within in
      let end : Sender L F = slice_index_or l.ends p.to e in
      let at : (x : Sender L F) → slice_index_or l.ends p.to x ≡ end = λ x. get_or_default l.ends p.to x e there in
      let back : IsReturned thread letter marked takes_back p l.ends l.ends =
      record { end = end; to = at; found = end.found; closed = subst (λ n. 1 ≤ (slice_index_or l.ends n e).found) (sym step.0) (gone e); no_less = omega arith; same = sym (set_same l.ends p.to end at) } in
      let u : Doing M B = t.done in
      let is : flow_tied l c d ≡ record { body = u.body; acts = record u.acts { pending = u.acts.pending ++ t.rest }; ends = l.ends } = λ i. record { body = t.body i; acts = t.acts i; ends = l.ends } in
      subst (λ (f : Flow L F M B). Went thread letter marked takes_back (done ++ true ∷ []) s f) (sym is)
      (back_more thread letter marked takes_back done s (flow_tied l a b) p t.rest l.ends u went t.pending back t.does t.adds)

  -- to whom the first go
  pub goes_there : (fits : ℕ → F → M → Type 0) (count : ℕ) (k l : Tied L F) (a c : ActsEnd M) (to : ℕ) (f : SendsFirst letter marked fits count k l a c) → 1 ≤ count → 1 ≤ first_to to a.pending → f.to ≡ to
  goes_there fits count k l a c to f some goes = start f.posts refl (let x = f.size in omega arith)
    where
      start : (posts : List (Post M)) → f.posts ≡ posts → 1 ≤ length posts → f.to ≡ to
      start [] e l = absurd (omega arith)
      start (p ∷ ps) e l =
          let parts : a.pending ≡ p ∷ (ps ++ f.behind) = f.parts ∙ ap (λ l. l ++ f.behind) e in
          let here = All-head (λ (q : Post M). q.to ≡ f.to) p ps (subst (λ l. All (λ (q : Post M). q.to ≡ f.to) l) e f.all_to) in
          sym here ∙ (first_to_step to p a.pending (ps ++ f.behind) parts goes).0

  -- the first are sent, or come back and are the first again
  pub step_sent : (fits : ℕ → F → M → Type 0) (count : ℕ) (done : List Bool) (s : Flow L F M B) (k l : Tied L F) (a c : ActsEnd M) (b : B) (to : ℕ) → k.thread ≡ thread → Went thread letter marked takes_back done s (flow_tied k a b)
      → SendsFirst letter marked fits count k l a c → 1 ≤ count → 1 ≤ first_to to a.pending → to < length k.ends
      → (bs : List Bool) × Went thread letter marked takes_back bs s (flow_tied l c b)
  step_sent fits count done s k l a c b to same went f some goes within = outcome f.posts refl f.outcome
    where
      in_range : f.to < length k.ends
      in_range = subst (λ n. n < length k.ends) (sym (goes_there fits count k l a c to f some goes)) within

      before : a ≡ record a { pending = f.posts ++ f.behind }
      before = ap (λ (l : List (Post M)). record a { pending = l }) f.parts

      outcome : (posts : List (Post M)) → f.posts ≡ posts → AreMade letter marked f.to f.posts f.behind k l c ⊎ ComeBack letter fits f.to f.posts f.behind k l c → (bs : List Bool) × Went thread letter marked takes_back bs s (flow_tied l c b)
      outcome posts e (inl m) = (done ++ accepted f.posts, λ why bs v h. subst (λ l. SendsUntil thread letter marked takes_back why l s v) (sym (append_assoc done (accepted f.posts) bs)) (went why (accepted f.posts ++ bs) v (subst (λ (q : ActsEnd M). SendsUntil thread letter marked takes_back why (accepted f.posts ++ bs) (flow_tied k q b) v) (sym before) (made m why bs v h))))
        where
          made : (m : AreMade letter marked f.to f.posts f.behind k l c) (why : Option Stop) (bs : List Bool) (v : Flow L F M B) → SendsUntil thread letter marked takes_back why bs (flow_tied l c b) v
              → SendsUntil thread letter marked takes_back why (accepted f.posts ++ bs) (record { body = b; acts = record a { pending = f.posts ++ f.behind }; ends = k.ends }) v
          made m why bs v h =
              let g = m.grows in
              let e0 : Sender L F = slice_index_or k.ends f.to m.end in
              let one : g.end ≡ m.end = sym (g.at m.end) ∙ m.at m.end in
              let ls = map (λ (p : Post M). letter p.what) f.posts in
              let sent : l.ends ≡ slice_set k.ends f.to (record m.end { sent = m.end.sent ++ marked_from marked thread (length m.end.sent) ls }) =
              ap (λ (t : Tied L F). t.ends) g.sent ∙ (λ i. slice_set k.ends f.to (record (one i) { sent = (one i).sent ++ marked_from marked (same i) (length m.end.sent) ls })) in
              let after : c ≡ record a { pending = f.behind } = f.rest ∙ ap (λ (l : List (Post M)). record a { pending = l }) m.left in
              let free : m.end.found ≡ 0 = ap (λ (x : Sender L F). x.found) (sym one) ∙ g.not_exited in
              let room = g.room in
              let long = marked_count marked k.thread (length m.end.sent) ls in
              let size = length-map f.posts (λ (p : Post M). letter p.what) in
              let count_end = ap (λ (x : Sender L F). length x.sent) one in
              many_made thread letter marked takes_back why f.to f.posts f.behind k.ends m.end b a bs v in_range m.at free (omega arith) f.all_to
              (subst (λ (t : Flow L F M B). SendsUntil thread letter marked takes_back why bs t v) (λ i. record { body = b; acts = after i; ends = sent i }) h)
      outcome [] e (inr m) = absurd (let x = f.size in let y = ap length e in omega arith)
      outcome (p ∷ ps) e (inr m) = (done, λ why bs v h. went why bs v (back m why bs v h))
        where
          back : (m : ComeBack letter fits f.to f.posts f.behind k l c) (why : Option Stop) (bs : List Bool) (v : Flow L F M B) → SendsUntil thread letter marked takes_back why bs (flow_tied l c b) v → SendsUntil thread letter marked takes_back why bs (flow_tied k a b) v
          back m why bs v h =
              let g = m.found in
              let ends = ap (λ (t : Tied L F). t.ends) g.found in
              let after : c ≡ record a { pending = m.again ++ f.behind } = f.rest ∙ ap (λ (l : List (Post M)). record a { pending = l }) m.pending in
              let moved : SendsUntil thread letter marked takes_back why bs (flow b a (slice_set k.ends f.to (record g.end { found = g.end.found + 1 })) (m.again ++ f.behind)) v =
              subst (λ (t : Flow L F M B). SendsUntil thread letter marked takes_back why bs t v) (λ i. record { body = b; acts = after i; ends = ends i }) h in
              let as_letters : letters letter (f.posts ++ f.behind) ≡ letters letter (m.again ++ f.behind) =
              map-append (λ (p : Post M). record { to = p.to; what = letter p.what }) f.posts f.behind ∙ ap (λ l. l ++ letters letter f.behind) (sym (posts_same letter f.to m.again f.posts m.same m.all_to f.all_to)) ∙ sym (map-append (λ (p : Post M). record { to = p.to; what = letter p.what }) m.again f.behind) in
              let again = sends_same why bs b a (slice_set k.ends f.to (record g.end { found = g.end.found + 1 })) (f.posts ++ f.behind) (m.again ++ f.behind) v as_letters moved in
              let here = All-head (λ (q : Post M). q.to ≡ f.to) p ps (subst (λ l. All (λ (q : Post M). q.to ≡ f.to) l) e f.all_to) in
              subst (λ (q : ActsEnd M). SendsUntil thread letter marked takes_back why bs (flow_tied k q b) v) (sym before)
              (found_before thread letter marked takes_back why f.to (g.end.found + 1) k.ends g.end p (ps ++ f.behind) b (record a { pending = f.posts ++ f.behind }) bs v in_range g.at (omega arith) (omega arith) (ap (λ l. l ++ f.behind) e) here again)
