-- Sends that are made, or come back and are the first again.
use Rattle.std.proofs.Common.{◌≡◌, ◌≢◌, ℕ, zero, suc, ◌+◌, ◌<◌, ◌≤◌, List, [], ◌∷◌, ◌++◌, length, map, refl, sym, ap, subst, ◌∙◌, arith, append_assoc, length-set, get_or-set_same, get_or-set_other, All, Option, Some, None, inl, inr, ⊎_elim}
use Rattle.std.specs.Prelude.{slice_index_or, slice_set}
use Rattle.std.proofs.lemmas.Bool.{cases_lt}
use Rattle.std.proofs.lemmas.List.{length_push}
use Rattle.std.proofs.lemmas.List.Elements.{All-nil, All-cons, All-head, All-tail, All-push}
use Rattle.std.proofs.Math.ListN.{get_or-append}
use Rattle.std.proofs.Math.Seq.{get_or-append_seam}
use Rattle.std.proofs.Math.Logic.{dite}
use native.Mathlib.Decide.{ℕ_discrete}
use Rattle.lw_base.specs.declared.message.Tag.{Tag}
use Rattle.lw_base.specs.Letters.{FitsRing, Names}
use Rattle.lw_ring.specs.Calls.{NamedFrom}
use Rattle.lw_ring.specs.Ends.{Sender}
use Rattle.lw_thread.specs.Acts.{Post, ActsEnd}
use Rattle.lw_thread.specs.Sending.{first_to, Leads}
use Rattle.lw_thread.specs.Threads.{EndsStill}
use Rattle.lw_thread.specs.Links.{Tied, Grows, FindsClosed, marked_from}
use Rattle.lw_thread.specs.Posting.{IsSending, Gathers, PutsFirst, SendsFirst}
use Rattle.lw_thread.proofs.Counting.{first_to_more, first_to_none}

-- the next one goes there, where some do
pub first_to_step : {X : Type 0} (to : ℕ) (p : Post X) (ps rest : List (Post X)) → ps ≡ p ∷ rest → 1 ≤ first_to to ps → (p.to ≡ to) × (first_to to ps ≡ first_to to rest + 1)
first_to_step to p ps rest e some = dite (ℕ_discrete p.to to)
    (λ (is : p.to ≡ to). (is, ap (first_to to) e ∙ first_to_more to p rest is))
    (λ (other : p.to ≢ to). absurd (let z = ap (first_to to) e ∙ first_to_none to p rest other in omega arith))

-- some item of a list that has this place
pub some_of : {X : Type 0} (xs : List X) (k : ℕ) → k < length xs → X
some_of [] k l = absurd (omega arith)
some_of (x ∷ xs) k l = x

-- what fits as one message fits as another
pub fits_ring : {F T : Type 0} (fits : ℕ → F → T → Type 0) (r : ℕ) (x y : T) → ((n : ℕ) (f : F) → fits n f x → fits n f y) → (o : Option F) → FitsRing fits r o x → FitsRing fits r o y
fits_ring fits r x y h None f = f
fits_ring fits r x y h (Some k) f = h r k f

-- the ends stay those of the same rings, where one has sent more or found its ring closed
set_still : {L F : Type 0} (es : List (Sender L F)) (to : ℕ) (end e2 : Sender L F) → ((d : Sender L F) → slice_index_or es to d ≡ end) → e2 ≡ record end { sent = e2.sent; found = e2.found } → EndsStill es (slice_set es to e2)
set_still {L} {F} es to end e2 at same = record {
  count = length-set es to e2;
  each = λ k d within. dite (ℕ_discrete k to)
      (λ (is : k ≡ to). (let here : slice_index_or (slice_set es to e2) k d ≡ e2 = ap (λ n. slice_index_or (slice_set es to e2) n d) is ∙ get_or-set_same es to e2 d (subst (λ n. n < length es) is within) in
      let was : slice_index_or es k d ≡ end = ap (λ n. slice_index_or es n d) is ∙ at d in
      here ∙ same ∙ (λ i. record (sym was i) { sent = (sym here i).sent; found = (sym here i).found })))
      (λ (other : k ≢ to). (let keeps = get_or-set_other es to k e2 d other in keeps ∙ (λ i. record (slice_index_or es k d) { sent = (sym keeps i).sent; found = (sym keeps i).found })));
}

pub grows_still : {L F : Type 0} (to : ℕ) (xs : List L) (k l : Tied L F) → Grows to xs k l → IsSending k l
grows_still {L} {F} to xs k l g =
    let e2 : Sender L F = record g.end { sent = g.end.sent ++ xs } in
    record {
      ends = subst (λ (fs : List (Sender L F)). EndsStill k.ends fs) (sym (ap (λ (t : Tied L F). t.ends) g.sent)) (set_still k.ends to g.end e2 g.at refl);
      rest = g.sent ∙ (λ i. record k { ends = (sym (ap (λ (t : Tied L F). t.ends) g.sent)) i });
    }

module _ {M L : Type 0} (letter : M → L) (marked : L → ℕ → ℕ → L) where
  pub gathers_none : (to thread first : ℕ) (run : List M) (a : ActsEnd M) → run ≡ [] → Gathers letter marked to thread first run a a
  gathers_none to thread first run a none =
      let size = ap length none in
      record { taken = []; parts = refl; count = size; all_to = All-nil (λ (q : Post M). q.to ≡ to); marks = λ k d p l. absurd (omega arith); blank = All-nil (λ (q : Post M). letter q.what ≡ marked (letter q.what) 0 0); rest = refl }

  -- one more is taken out and marked
  pub gathers_more : (to thread first : ℕ) (run : List M) (m : M) (a b c : ActsEnd M) (p : Post M) → Gathers letter marked to thread first run a b
      → b.pending ≡ p ∷ c.pending → c ≡ record b { pending = c.pending } → p.to ≡ to → letter m ≡ marked (letter p.what) thread (first + length run) → letter p.what ≡ marked (letter p.what) 0 0
      → Gathers letter marked to thread first (run ++ m ∷ []) a c
  gathers_more to thread first run m a b c p h next rest there mark blank =
      let long = length_push run m in
      let more = length_push h.taken p in
      let had = h.count in
      record {
        taken = h.taken ++ p ∷ [];
        parts = h.parts ∙ ap (λ l. h.taken ++ l) next ∙ sym (append_assoc h.taken (p ∷ []) c.pending);
        count = omega arith;
        all_to = All-push (λ (q : Post M). q.to ≡ to) h.taken p h.all_to there;
        marks = λ k d q l. ⊎_elim
            (λ low. (let x = get_or-append run (m ∷ []) d k low in let y = get_or-append h.taken (p ∷ []) q k (omega arith) in
            ap letter x ∙ h.marks k d q low ∙ ap (λ (z : Post M). marked (letter z.what) thread (first + k)) (sym y)))
            (λ high. (let is : k ≡ length run = omega arith in let is2 : k ≡ length h.taken = omega arith in
            let x = ap (λ n. slice_index_or (run ++ m ∷ []) n d) is ∙ get_or-append_seam run m [] d in
            let y = ap (λ n. slice_index_or (h.taken ++ p ∷ []) n q) is2 ∙ get_or-append_seam h.taken p [] q in
            ap letter x ∙ mark ∙ (λ i. marked (letter (sym y i).what) thread (first + sym is i))))
            (cases_lt k (length run));
        blank = All-push (λ (q : Post M). letter q.what ≡ marked (letter q.what) 0 0) h.taken p h.blank blank;
        rest = rest ∙ ap (λ (q : ActsEnd M). record q { pending = c.pending }) h.rest;
      }

  -- what was marked so is named so
  pub names_more : (tag_of : L → Tag) (thread first : ℕ) (run : List M) (m : M) → NamedFrom letter tag_of thread first run → Names (tag_of (letter m)) thread (first + length run) → NamedFrom letter tag_of thread first (run ++ m ∷ [])
  names_more tag_of thread first run m h one k d l =
      let long = length_push run m in
      ⊎_elim
      (λ low. subst (λ x. Names (tag_of (letter x)) thread (first + k)) (sym (get_or-append run (m ∷ []) d k low)) (h k d low))
      (λ high. (let is : k ≡ length run = omega arith in
      let x = ap (λ n. slice_index_or (run ++ m ∷ []) n d) is ∙ get_or-append_seam run m [] d in
      subst (λ y. Names (tag_of (letter y)) thread (first + k)) (sym x) (subst (λ n. Names (tag_of (letter m)) thread (first + n)) (sym is) one)))
      (cases_lt k (length run))

  -- the letters of a run are those of what was taken out, marked one after the other
  pub marks_list : (thread first : ℕ) (run : List M) (taken : List (Post M)) → length run ≡ length taken
      → ((k : ℕ) (d : M) (p : Post M) → k < length run → letter (slice_index_or run k d) ≡ marked (letter (slice_index_or taken k p).what) thread (first + k))
      → map letter run ≡ marked_from marked thread first (map (λ (p : Post M). letter p.what) taken)
  marks_list thread first [] [] e h = refl
  marks_list thread first [] (p ∷ ps) e h = absurd (omega arith)
  marks_list thread first (m ∷ ms) [] e h = absurd (omega arith)
  marks_list thread first (m ∷ ms) (p ∷ ps) e h =
      let here : letter m ≡ marked (letter p.what) thread first = h 0 m p (omega arith) ∙ ap (λ n. marked (letter p.what) thread n) (omega arith) in
      let rest = marks_list thread (first + 1) ms ps (omega arith) (λ k d q l. h (suc k) d q (omega arith) ∙ ap (λ n. marked (letter (slice_index_or ps k q).what) thread n) (omega arith)) in
      λ i. here i ∷ rest i

module _ {M L F : Type 0} (letter : M → L) (marked : L → ℕ → ℕ → L) (fits : ℕ → F → M → Type 0) where
  pub puts_none : (to : ℕ) (a : ActsEnd M) → PutsFirst letter marked fits to [] a a
  puts_none to a = record { put = []; pending = refl; count = refl; all_to = All-nil (λ (p : Post M). p.to ≡ to); blank = λ k d p l. absurd (omega arith); all_fit = λ r f h. All-nil (λ (p : Post M). FitsRing fits r f p.what); rest = refl }

  -- one more is put before them
  pub puts_more : (to : ℕ) (m : M) (put : List M) (a b c : ActsEnd M) → PutsFirst letter marked fits to put a b
      → (waiting : M) × (letter waiting ≡ marked (letter m) 0 0) × ((r : ℕ) (f : F) → fits r f m → fits r f waiting) × Leads to waiting c b
      → PutsFirst letter marked fits to (m ∷ put) a c
  puts_more to m put a b c h first =
      let w = first.0 in
      let lead = first.3 in
      let p : Post M = record { to = to; what = w } in
      let had = h.count in
      record {
        put = p ∷ h.put;
        pending = lead.first ∙ ap (λ l. p ∷ l) h.pending;
        count = omega arith;
        all_to = All-cons (λ (q : Post M). q.to ≡ to) p h.put refl h.all_to;
        blank = blank;
        all_fit = λ r f all. All-cons (λ (q : Post M). FitsRing fits r f q.what) p h.put (fits_ring fits r m w first.2 f (All-head (FitsRing fits r f) m put all)) (h.all_fit r f (All-tail (FitsRing fits r f) m put all));
        rest = sym (ap (λ (q : ActsEnd M). record q { pending = c.pending }) lead.rest) ∙ ap (λ (q : ActsEnd M). record q { pending = c.pending }) h.rest;
      }
    where
      blank : (k : ℕ) (d : M) (q : Post M) → k < length (m ∷ put) → letter (slice_index_or (record { to = to; what = first.0 } ∷ h.put) k q).what ≡ marked (letter (slice_index_or (m ∷ put) k d)) 0 0
      blank zero d q l = first.1
      blank (suc k) d q l = h.blank k d q (omega arith)

  -- one is sent
  pub sent_one : (k l : Tied L F) (a c : ActsEnd M) (to : ℕ) (m : M) (d : Sender L F) → Leads to m a c → Grows to (marked (letter m) k.thread (length (slice_index_or k.ends to d).sent) ∷ []) k l → SendsFirst letter marked fits 1 k l a c
  sent_one k l a c to m d lead g = record {
    to = to;
    posts = record { to = to; what = m } ∷ [];
    behind = c.pending;
    parts = lead.first;
    size = refl;
    all_to = All-cons (λ (q : Post M). q.to ≡ to) (record { to = to; what = m }) [] refl (All-nil (λ (q : Post M). q.to ≡ to));
    rest = lead.rest;
    outcome = inl (record { end = g.end; at = g.at; grows = subst (λ (e : Sender L F). Grows to (marked (letter m) k.thread (length e.sent) ∷ []) k l) (g.at d) g; left = refl });
  }

  -- one came back
  pub back_one : (k l : Tied L F) (a b c : ActsEnd M) (to : ℕ) (m back : M) → Leads to m a b → letter m ≡ marked (letter m) 0 0 → FindsClosed to k l → marked (letter back) 0 0 ≡ marked (letter m) 0 0
      → (waiting : M) × (letter waiting ≡ marked (letter back) 0 0) × ((r : ℕ) (f : F) → fits r f back → fits r f waiting) × Leads to waiting c b
      → FitsRing fits to k.recv.family back → SendsFirst letter marked fits 1 k l a c
  back_one k l a b c to m back lead blank found last first fit =
      let w = first.0 in
      let again = first.3 in
      let p : Post M = record { to = to; what = w } in
      record {
        to = to;
        posts = record { to = to; what = m } ∷ [];
        behind = b.pending;
        parts = lead.first;
        size = refl;
        all_to = All-cons (λ (q : Post M). q.to ≡ to) (record { to = to; what = m }) [] refl (All-nil (λ (q : Post M). q.to ≡ to));
        rest = sym (ap (λ (q : ActsEnd M). record q { pending = c.pending }) again.rest) ∙ ap (λ (q : ActsEnd M). record q { pending = c.pending }) lead.rest;
        outcome = inr (record {
          found = found;
          again = p ∷ [];
          pending = again.first;
          same = ap (λ x. x ∷ []) (first.1 ∙ last ∙ sym blank);
          all_to = All-cons (λ (q : Post M). q.to ≡ to) p [] refl (All-nil (λ (q : Post M). q.to ≡ to));
          all_fit = All-cons (λ (q : Post M). FitsRing fits to k.recv.family q.what) p [] (fits_ring fits to back w first.2 k.recv.family fit) (All-nil (λ (q : Post M). FitsRing fits to k.recv.family q.what));
        });
      }

  -- lists of equal letters
  pub letters_list : (xs ys : List (Post M)) → length xs ≡ length ys → ((k : ℕ) (p q : Post M) → k < length xs → letter (slice_index_or xs k p).what ≡ letter (slice_index_or ys k q).what) → map (λ (p : Post M). letter p.what) xs ≡ map (λ (p : Post M). letter p.what) ys
  letters_list [] [] e h = refl
  letters_list [] (y ∷ ys) e h = absurd (omega arith)
  letters_list (x ∷ xs) [] e h = absurd (omega arith)
  letters_list (x ∷ xs) (y ∷ ys) e h =
      let here = h 0 x y (omega arith) in
      let rest = letters_list xs ys (omega arith) (λ k p q l. h (suc k) p q (omega arith)) in
      λ i. here i ∷ rest i

  -- a run is sent
  pub sent_many : (count : ℕ) (k l : Tied L F) (a c : ActsEnd M) (to : ℕ) (run : List M) (d : Sender L F) → Gathers letter marked to k.thread (length (slice_index_or k.ends to d).sent) run a c → length run ≡ count → Grows to (map letter run) k l → SendsFirst letter marked fits count k l a c
  sent_many count k l a c to run d h size g = record {
    to = to;
    posts = h.taken;
    behind = c.pending;
    parts = h.parts;
    size = sym h.count ∙ size;
    all_to = h.all_to;
    rest = h.rest;
    outcome = inl (record {
      end = g.end;
      at = g.at;
      grows = subst (λ ls. Grows to ls k l) (marks_list letter marked k.thread (length (slice_index_or k.ends to d).sent) run h.taken h.count h.marks ∙ ap (λ (e : Sender L F). marked_from marked k.thread (length e.sent) (map (λ (p : Post M). letter p.what) h.taken)) (g.at d)) g;
      left = refl;
    });
  }

  -- a run came back
  pub back_many : (count : ℕ) (k l : Tied L F) (a b c : ActsEnd M) (to first : ℕ) (run : List M) → Gathers letter marked to k.thread first run a b → length run ≡ count → FindsClosed to k l → PutsFirst letter marked fits to run b c
      → ((x : L) (s n t j : ℕ) → marked (marked x s n) t j ≡ marked x t j) → All (FitsRing fits to k.recv.family) run → SendsFirst letter marked fits count k l a c
  back_many count k l a b c to first run h size found p last fit =
      let same : length p.put ≡ length h.taken = p.count ∙ h.count in
      let put_size = p.count in
      record {
        to = to;
        posts = h.taken;
        behind = b.pending;
        parts = h.parts;
        size = sym h.count ∙ size;
        all_to = h.all_to;
        rest = p.rest ∙ ap (λ (q : ActsEnd M). record q { pending = c.pending }) h.rest;
        outcome = inr (record {
          found = found;
          again = p.put;
          pending = p.pending;
          same = letters_list p.put h.taken same (λ j x y less. (let some = some_of run j (omega arith) in
              p.blank j some x (omega arith) ∙ ap (λ z. marked z 0 0) (h.marks j some y (omega arith)) ∙ last (letter (slice_index_or h.taken j y).what) k.thread (first + j) 0 0 ∙ sym (h.blank j y (omega arith))));
          all_to = p.all_to;
          all_fit = p.all_fit to k.recv.family fit;
        });
      }
