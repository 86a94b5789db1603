-- What a send that isn't made leaves.
use Rattle.std.proofs.Common.{◌≡◌, ℕ, ◌+◌, Bool, List, [], ◌∷◌, ◌++◌, refl, sym, ap, subst, ◌∙◌, arith, All, inl, inr, Ok, Err, Some}
use Rattle.std.specs.Prelude.{◌⊎◌, IfErr, IsErrAnd}
use Rattle.std.specs.declared.result.Result.{Result}
use Rattle.std.proofs.lemmas.List.{append-nil, map-append}
use Rattle.std.proofs.lemmas.List.Elements.{All-nil, All-cons, All-head, All-tail}
use Rattle.lw_ring.specs.Ends.{Sender}
use Rattle.lw_thread.specs.declared.stop.Stop.{Stop}
use Rattle.lw_thread.specs.declared.stop.Stop.TheVariants as stop
use Rattle.lw_thread.specs.Acts.{Post, ActsEnd, Doing, letters}
use Rattle.lw_thread.specs.Sending.{Leads}
use Rattle.lw_thread.specs.Links.{Tied, FindsClosed}
use Rattle.lw_thread.specs.Polls.{FindMore, IsCutShort, SendsEnd, SendsUntil}
use Rattle.lw_thread.specs.Posting.{AllWait, OthersWait, StillWait, KeepsOthers, PostsUntil, flow_tied}
use Rattle.lw_thread.proofs.Chains.{Went, find_none, find_set}

-- a stop for this reason
pub for_reason : {T : Type 0} (r : Result T Stop) (why : Stop) (P : Stop → Type 0) → IsErrAnd r (λ e. e ≡ why) → P why → IfErr r P
for_reason (Ok x) why P h p = tt
for_reason (Err e) why P h p = subst P (sym h) p

one_to : {M : Type 0} (to : ℕ) (m : M) → All (λ (p : Post M). p.to ≡ to) (record { to = to; what = m } ∷ [])
one_to {M} to m = All-cons (λ (p : Post M). p.to ≡ to) (record { to = to; what = m }) [] refl (All-nil (λ (p : Post M). p.to ≡ to))

module _ {M L : Type 0} (letter : M → L) where
  letters_to : (to : ℕ) (ps : List (Post M)) → All (λ (p : Post M). p.to ≡ to) ps → All (λ (p : Post L). p.to ≡ to) (letters letter ps)
  letters_to to [] all = All-nil (λ (p : Post L). p.to ≡ to)
  letters_to to (p ∷ ps) all =
      All-cons (λ (q : Post L). q.to ≡ to) (record { to = p.to; what = letter p.what }) (letters letter ps) (All-head (λ (q : Post M). q.to ≡ to) p ps all)
      (letters_to to ps (All-tail (λ (q : Post M). q.to ≡ to) p ps all))

  both : (ps qs : List (Post M)) → letters letter (ps ++ qs) ≡ letters letter ps ++ letters letter qs
  both ps qs = map-append (λ (p : Post M). record { to = p.to; what = letter p.what }) ps qs

module _ {M L F : Type 0} where
  -- those that were taken out are the first, and some may be there again
  pub others_wait : (k l : Tied L F) (a b c : ActsEnd M) (to : ℕ) (first before : List (Post M)) → a.pending ≡ first ++ b.pending → All (λ (p : Post M). p.to ≡ to) first → c.pending ≡ before ++ b.pending → (l ≡ k) ⊎ FindsClosed to k l → OthersWait k l a c
  others_wait k l a b c to first before parts all left ends = record { to = to; first = first; rest = b.pending; pending = parts; its_end = all; before = before; unsent = left; ends = ends }

  -- one is lost
  pub lost_one : (k l : Tied L F) (a b c : ActsEnd M) (to : ℕ) (m : M) → Leads to m a b → c ≡ b → (l ≡ k) ⊎ FindsClosed to k l → OthersWait k l a c
  lost_one k l a b c to m lead same ends = others_wait k l a b c to (record { to = to; what = m } ∷ []) [] lead.first (one_to to m) (ap (λ (q : ActsEnd M). q.pending) same) ends

  -- one is the first again
  pub one_again : (k l : Tied L F) (a b c : ActsEnd M) (to : ℕ) (m w : M) → Leads to m a b → Leads to w c b → l ≡ k → OthersWait k l a c
  one_again k l a b c to m w lead again same = others_wait k l a b c to (record { to = to; what = m } ∷ []) (record { to = to; what = w } ∷ []) lead.first (one_to to m) again.first (inl same)

  pub none_lost : (k l : Tied L F) (a c : ActsEnd M) (to : ℕ) → l ≡ k → c ≡ a → OthersWait k l a c
  none_lost k l a c to same kept = others_wait k l a a c to [] [] refl (All-nil (λ (p : Post M). p.to ≡ to)) (ap (λ (q : ActsEnd M). q.pending) kept) (inl same)

  -- and has the same letter
  pub all_wait : (letter : M → L) (k l : Tied L F) (a b c : ActsEnd M) (to : ℕ) (m w : M) → Leads to m a b → Leads to w c b → letter w ≡ letter m → l ≡ k → AllWait letter to k l a c
  all_wait letter k l a b c to m w lead again same_letter same = record {
    first = record { to = to; what = m };
    rest = b.pending;
    pending = lead.first;
    its_end = refl;
    links = same;
    acts = sym (ap (λ (q : ActsEnd M). record q { pending = c.pending }) again.rest) ∙ ap (λ (q : ActsEnd M). record q { pending = c.pending }) lead.rest;
    unsent = ap (letters letter) again.first ∙ (λ i. record { to = to; what = same_letter i } ∷ letters letter b.pending) ∙ sym (ap (letters letter) lead.first);
  }

module _ {L F M B : Type 0} (thread : ℕ) (letter : M → L) (marked : L → ℕ → ℕ → L) (takes_back : ℕ → L → Doing M B → Doing M B → Type 0) where
  cut : (k l : Tied L F) (a c : ActsEnd M) (b d : B) (to : ℕ) (first rest before : List (Post M)) → a.pending ≡ first ++ rest → All (λ (p : Post M). p.to ≡ to) first → c.pending ≡ before ++ rest → FindMore k.ends l.ends
      → IsCutShort thread letter marked takes_back (flow_tied k a b) (flow_tied l c d)
  cut k l a c b d to first rest before parts all left ends = record {
    to = to;
    next = letters letter first;
    rest = letters letter rest;
    pending = ap (letters letter) parts ∙ both letter first rest;
    its_end = letters_to letter to first all;
    before = letters letter before;
    unsent = ap (letters letter) left ∙ both letter before rest;
    ends = ends;
  }

  -- what came back was not taken
  pub cut_back : (k : Tied L F) (a c : ActsEnd M) (b d : B) → KeepsOthers a c → IsCutShort thread letter marked takes_back (flow_tied k a b) (flow_tied k c d)
  cut_back k a c b d h =
      cut k k a c b d h.first.to (h.first ∷ []) h.rest h.before h.pending (All-cons (λ (p : Post M). p.to ≡ h.first.to) h.first [] refl (All-nil (λ (p : Post M). p.to ≡ h.first.to))) h.kept (find_none k.ends)

  found_more : (k l : Tied L F) (to : ℕ) → (l ≡ k) ⊎ FindsClosed to k l → FindMore k.ends l.ends
  found_more k l to (inl same) = subst (λ (es : List (Sender L F)). FindMore k.ends es) (sym (ap (λ (t : Tied L F). t.ends) same)) (find_none k.ends)
  found_more k l to (inr f) =
      subst (λ (es : List (Sender L F)). FindMore k.ends es) (sym (ap (λ (t : Tied L F). t.ends) f.found)) (find_set k.ends to f.end (f.end.found + 1) f.at (omega arith))

  -- a send wasn't made
  pub ends_there : (why : Stop) (k l : Tied L F) (a c : ActsEnd M) (b : B) → StillWait letter k l a c why → SendsEnd thread letter marked takes_back (Some why) (flow_tied k a b) (flow_tied l c b)
  ends_there stop.NoMemory k l a c b h = cut k l a c b b h.to h.first h.rest h.before h.pending h.its_end h.unsent (found_more k l h.to h.ends)
  ends_there (stop.Spent to count) k l a c b h =
      record { next = h.first; rest = h.rest; pending = h.pending; its_end = h.its_end; unsent = h.unsent; body = refl; acts = h.acts; ends = found_more k l to (inl h.links) }

-- the sends went so far, and so they ended
pub posts_until : {L F M B : Type 0} (letter : M → L) (marked : L → ℕ → ℕ → L) (takes_back : ℕ → L → Doing M B → Doing M B → Type 0) (why : Stop) (k l m : Tied L F) (a a1 c : ActsEnd M) (b b1 d : B) (done : List Bool)
    → Went k.thread letter marked takes_back done (flow_tied k a b) (flow_tied l a1 b1) → SendsEnd k.thread letter marked takes_back (Some why) (flow_tied l a1 b1) (flow_tied m c d) → PostsUntil letter marked takes_back k m a c b d why
posts_until letter marked takes_back why k l m a a1 c b b1 d done went end = record {
  returned = done;
  sends = subst (λ bs. SendsUntil k.thread letter marked takes_back (Some why) bs (flow_tied k a b) (flow_tied m c d)) (append-nil done) (went (Some why) [] (flow_tied m c d) end);
}
