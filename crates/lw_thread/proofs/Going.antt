-- What a poll keeps while its sends are made.
use Rattle.std.proofs.Common.{◌≡◌, ℕ, zero, suc, ◌+◌, ◌<◌, List, [], ◌∷◌, ◌++◌, length, map, refl, sym, ap, subst, ◌∙◌, arith, append_assoc, length-set, All, inl, inr}
use Rattle.std.specs.Prelude.{slice_index_or, slice_set, ◌⊎◌}
use Rattle.std.proofs.lemmas.List.{append-nil, map-append, length-map, length_push, map-set, get_or-map}
use Rattle.std.proofs.lemmas.List.Elements.{All-head, All-tail, All-append}
use Rattle.lw_base.specs.Letters.{FitsRing, list_at}
use Rattle.lw_ring.proofs.Counts.{All-back}
use Rattle.lw_ring.specs.Ends.{Sender}
use Rattle.lw_ring.specs.Settling.{all_sent}
use Rattle.lw_poller.specs.Pollers.{times}
use Rattle.lw_thread.specs.Acts.{Known, Asks, Post, ActsEnd, AllFit, asks_of, letters, and_sent}
use Rattle.lw_thread.specs.Calls.{AreOf}
use Rattle.lw_thread.specs.Links.{Tied, known_tied, marked_from}
use Rattle.lw_thread.specs.Posting.{IsGoing, SendsFirst, AreMade, ComeBack}
use Rattle.lw_thread.proofs.Counting.{set_same, set_twice}
use Rattle.lw_thread.proofs.Sent.{posts_same}

-- the list at a place, after a write
pub list_at_is : {L : Type 0} (s : List (List L)) (k : ℕ) → list_at s k ≡ slice_index_or s k []
list_at_is [] k = refl
list_at_is (x ∷ xs) zero = refl
list_at_is (x ∷ xs) (suc k) = list_at_is xs k

list_at_set : {L : Type 0} (s : List (List L)) (k : ℕ) (y : List L) → k < length s → list_at (slice_set s k y) k ≡ y
list_at_set [] k y l = absurd (omega arith)
list_at_set (x ∷ xs) zero y l = refl
list_at_set (x ∷ xs) (suc k) y l = list_at_set xs k y (omega arith)

list_at_same : {L : Type 0} (s : List (List L)) (k : ℕ) → slice_set s k (list_at s k) ≡ s
list_at_same [] k = refl
list_at_same (x ∷ xs) zero = refl
list_at_same (x ∷ xs) (suc k) = ap (λ l. x ∷ l) (list_at_same xs k)

module _ {L F M B : Type 0} (letter : M → L) (marked : L → ℕ → ℕ → L) (lawful : Known L F → Asks L → B → Type 0) where
  abbrev post : Post M → Post L
  post p = record { to = p.to; what = letter p.what }

  abbrev FitsTo : (ℕ → F → M → Type 0) → Tied L F → Post M → Type 0
  FitsTo fits k p = FitsRing fits p.to k.recv.family p.what

  -- more was sent to one receiver
  abbrev pub with_sent : Known L F → ℕ → List L → Known L F
  with_sent k to xs = record k { sent = slice_set k.sent to (list_at k.sent to ++ xs) }

  -- the law of a body, told of many sends
  many_lawful : ((k : Known L F) (live : ℕ → ℕ) (to : ℕ) (x : L) (rest : List (Post L)) (body : B) → to < length k.sent → lawful k (record { live = live; pending = record { to = to; what = x } ∷ rest }) body
      → lawful (and_sent k to (marked x k.thread (length (list_at k.sent to)))) (record { live = live; pending = rest }) body)
      → (k : Known L F) (live : ℕ → ℕ) (to : ℕ) (posts : List (Post M)) (rest : List (Post L)) (body : B) → to < length k.sent → All (λ (p : Post M). p.to ≡ to) posts
      → lawful k (record { live = live; pending = letters letter posts ++ rest }) body
      → lawful (with_sent k to (marked_from marked k.thread (length (list_at k.sent to)) (map (λ (p : Post M). letter p.what) posts))) (record { live = live; pending = rest }) body
  many_lawful law k live to [] rest body within all h =
      subst (λ s. lawful (record k { sent = s }) (record { live = live; pending = rest }) body) (sym (ap (λ l. slice_set k.sent to l) (append-nil (list_at k.sent to)) ∙ list_at_same k.sent to)) h
  many_lawful law k live to (p ∷ ps) rest body within all h =
      let here = All-head (λ (q : Post M). q.to ≡ to) p ps all in
      let x = marked (letter p.what) k.thread (length (list_at k.sent to)) in
      let k1 : Known L F = and_sent k to x in
      let first = law k live to (letter p.what) (letters letter ps ++ rest) body within (subst (λ n. lawful k (record { live = live; pending = record { to = n; what = letter p.what } ∷ (letters letter ps ++ rest) }) body) here h) in
      let now : list_at k1.sent to ≡ list_at k.sent to ++ x ∷ [] = list_at_set k.sent to (list_at k.sent to ++ x ∷ []) within in
      let within1 : to < length k1.sent = subst (λ n. to < n) (sym (length-set k.sent to (list_at k.sent to ++ x ∷ []))) within in
      let others = many_lawful law k1 live to ps rest body within1 (All-tail (λ (q : Post M). q.to ≡ to) p ps all) first in
      let ls = map (λ (q : Post M). letter q.what) ps in
      let more = marked_from marked k.thread (length (list_at k.sent to) + 1) ls in
      let long : length (list_at k1.sent to) ≡ length (list_at k.sent to) + 1 = ap length now ∙ length_push (list_at k.sent to) x in
      let is : slice_set k1.sent to (list_at k1.sent to ++ marked_from marked k.thread (length (list_at k1.sent to)) ls) ≡ slice_set k.sent to (list_at k.sent to ++ x ∷ more) =
      (λ i. slice_set k1.sent to (now i ++ marked_from marked k.thread (long i) ls)) ∙ set_twice k.sent to (list_at k.sent to ++ x ∷ []) _ ∙ ap (λ l. slice_set k.sent to l) (append_assoc (list_at k.sent to) (x ∷ []) more) in
      subst (λ s. lawful (record k { sent = s }) (record { live = live; pending = rest }) body) is others

  -- what is known stays
  pub going_known : (fits : ℕ → F → M → Type 0) (l m : Tied L F) (a : ActsEnd M) (b : B) → IsGoing letter fits lawful l a b → known_tied m ≡ known_tied l → IsGoing letter fits lawful m a b
  going_known fits l m a b g e = record {
    of = subst (λ (k : Known L F). AreOf k a) (sym e) g.of;
    all_fit = subst (λ f. AllFit fits f a.pending) (sym (ap (λ (k : Known L F). k.family) e)) g.all_fit;
    keeps = subst (λ (k : Known L F). lawful k (asks_of letter a) b) (sym e) g.keeps;
  }

  -- the first are sent, or come back and are the first again
  pub going_sent : (fits : ℕ → F → M → Type 0) (count : ℕ) (k l : Tied L F) (a c : ActsEnd M) (b : B)
      → ((k : Known L F) (live : ℕ → ℕ) (to : ℕ) (x : L) (rest : List (Post L)) (body : B) → to < length k.sent → lawful k (record { live = live; pending = record { to = to; what = x } ∷ rest }) body
      → lawful (and_sent k to (marked x k.thread (length (list_at k.sent to)))) (record { live = live; pending = rest }) body)
      → IsGoing letter fits lawful k a b → (f : SendsFirst letter marked fits count k l a c) → f.to < length k.ends → IsGoing letter fits lawful l c b
  going_sent fits count k l a c b law g f within = outcome f.outcome
    where
      pollers : c.pollers ≡ a.pollers
      pollers = ap (λ (q : ActsEnd M). q.pollers) f.rest

      outcome : AreMade letter marked f.to f.posts f.behind k l c ⊎ ComeBack letter fits f.to f.posts f.behind k l c → IsGoing letter fits lawful l c b
      outcome (inl m) =
          let gr = m.grows in
          let kn = known_tied k in
          let xs = marked_from marked k.thread (length m.end.sent) (map (λ (p : Post M). letter p.what) f.posts) in
          let one : gr.end ≡ m.end = sym (gr.at m.end) ∙ m.at m.end in
          let inside : f.to < length kn.sent = subst (λ n. f.to < n) (sym (length-map k.ends (λ (e : Sender L F). e.sent))) within in
          let at : list_at kn.sent f.to ≡ m.end.sent = list_at_is kn.sent f.to ∙ get_or-map (λ (e : Sender L F). e.sent) k.ends f.to m.end [] within ∙ ap (λ (e : Sender L F). e.sent) (m.at m.end) in
          let sent : all_sent l.ends ≡ slice_set kn.sent f.to (list_at kn.sent f.to ++ marked_from marked kn.thread (length (list_at kn.sent f.to)) (map (λ (p : Post M). letter p.what) f.posts)) =
          ap (λ (t : Tied L F). all_sent t.ends) gr.sent ∙ map-set (λ (e : Sender L F). e.sent) k.ends f.to (record gr.end { sent = gr.end.sent ++ xs })
          ∙ (λ i. slice_set kn.sent f.to ((one i).sent ++ xs)) ∙ (λ i. slice_set kn.sent f.to (sym at i ++ marked_from marked k.thread (length (sym at i)) (map (λ (p : Post M). letter p.what) f.posts))) in
          let known : known_tied l ≡ with_sent kn f.to (marked_from marked kn.thread (length (list_at kn.sent f.to)) (map (λ (p : Post M). letter p.what) f.posts)) =
          λ i. record { thread = (gr.sent i).thread; family = (gr.sent i).recv.family; ran = (known_tied (gr.sent i)).ran; sent = sent i } in
          let asks : asks_of letter a ≡ record { live = λ n. times n a.pollers; pending = letters letter f.posts ++ letters letter f.behind } =
          λ i. record { live = λ n. times n a.pollers; pending = (ap (letters letter) f.parts ∙ map-append post f.posts f.behind) i } in
          let left : asks_of letter c ≡ record { live = λ n. times n a.pollers; pending = letters letter f.behind } = λ i. record { live = λ n. times n (pollers i); pending = letters letter (m.left i) } in
          let done = many_lawful law kn (λ n. times n a.pollers) f.to f.posts (letters letter f.behind) b inside f.all_to (subst (λ (q : Asks L). lawful kn q b) asks g.keeps) in
          let count_known = ap (λ (q : Known L F). length q.sent) known in
          let sizes = length-set kn.sent f.to (list_at kn.sent f.to ++ marked_from marked kn.thread (length (list_at kn.sent f.to)) (map (λ (p : Post M). letter p.what) f.posts)) in
          record {
            of = record { threads = ap (λ (q : ActsEnd M). q.threads) f.rest ∙ g.of.threads ∙ sym sizes ∙ sym count_known; ran = ap (λ (q : ActsEnd M). q.ran) f.rest ∙ g.of.ran ∙ sym (ap (λ (q : Known L F). length q.ran) known) };
            all_fit = subst (λ o. All (λ (p : Post M). FitsRing fits p.to o p.what) c.pending) (sym (ap (λ (t : Tied L F). t.recv.family) gr.sent))
                (subst (λ ps. All (FitsTo fits k) ps) (sym m.left) (All-back (FitsTo fits k) f.posts f.behind (subst (λ ps. All (FitsTo fits k) ps) f.parts g.all_fit)));
            keeps = subst (λ (q : Known L F). lawful q (asks_of letter c) b) (sym known) (subst (λ (q : Asks L). lawful (with_sent kn f.to (marked_from marked kn.thread (length (list_at kn.sent f.to)) (map (λ (p : Post M). letter p.what) f.posts))) q b) (sym left) done);
          }
      outcome (inr m) =
          let fd = m.found in
          let kn = known_tied k in
          let same_sent : all_sent (slice_set k.ends f.to (record fd.end { found = fd.end.found + 1 })) ≡ all_sent k.ends =
          map-set (λ (e : Sender L F). e.sent) k.ends f.to (record fd.end { found = fd.end.found + 1 })
          ∙ set_same (all_sent k.ends) f.to fd.end.sent (λ d. get_or-map (λ (e : Sender L F). e.sent) k.ends f.to fd.end d within ∙ ap (λ (e : Sender L F). e.sent) (fd.at fd.end)) in
          let known : known_tied l ≡ kn = ap known_tied fd.found ∙ (λ i. record { thread = k.thread; family = k.recv.family; ran = kn.ran; sent = same_sent i }) in
          let as_letters : letters letter c.pending ≡ letters letter a.pending =
          ap (letters letter) m.pending ∙ map-append post m.again f.behind ∙ ap (λ x. x ++ letters letter f.behind) (posts_same letter f.to m.again f.posts m.same m.all_to f.all_to) ∙ sym (map-append post f.posts f.behind) ∙ ap (letters letter) (sym f.parts) in
          let asks : asks_of letter c ≡ asks_of letter a = λ i. record { live = λ n. times n (pollers i); pending = as_letters i } in
          let again_fit : All (FitsTo fits k) m.again = λ j d less. subst (λ n. FitsRing fits n k.recv.family (slice_index_or m.again j d).what) (sym (m.all_to j d less)) (m.all_fit j d less) in
          record {
            of = record { threads = ap (λ (q : ActsEnd M). q.threads) f.rest ∙ g.of.threads ∙ sym (ap (λ (q : Known L F). length q.sent) known); ran = ap (λ (q : ActsEnd M). q.ran) f.rest ∙ g.of.ran ∙ sym (ap (λ (q : Known L F). length q.ran) known) };
            all_fit = subst (λ o. All (λ (p : Post M). FitsRing fits p.to o p.what) c.pending) (sym (ap (λ (t : Tied L F). t.recv.family) fd.found))
                (subst (λ ps. All (FitsTo fits k) ps) (sym m.pending) (All-append (FitsTo fits k) m.again f.behind again_fit (All-back (FitsTo fits k) f.posts f.behind (subst (λ ps. All (FitsTo fits k) ps) f.parts g.all_fit))));
            keeps = subst (λ (q : Known L F). lawful q (asks_of letter c) b) (sym known) (subst (λ (q : Asks L). lawful kn q b) (sym asks) g.keeps);
          }
