-- What comes back goes to the body.
use Rattle.std.proofs.Common.{◌≡◌, ℕ, ◌<◌, List, [], ◌∷◌, ◌++◌, refl, sym, ap, subst, ◌∙◌, All, Ok, Err}
use Rattle.std.specs.Prelude.{OnOk}
use Rattle.std.specs.declared.result.Result.{Result}
use Rattle.std.proofs.lemmas.List.{map-append}
use Rattle.std.proofs.lemmas.List.Elements.{All-head, All-tail, All-append}
use Rattle.lw_base.specs.Letters.{FitsRing}
use Rattle.lw_poller.specs.Pollers.{times}
use Rattle.lw_thread.specs.Acts.{Known, Asks, Post, ActsEnd, Doing, AllFit, asks_of, letters, blank}
use Rattle.lw_thread.specs.Calls.{AreOf, IsBack, Adds}
use Rattle.lw_thread.specs.Sending.{Leads}
use Rattle.lw_thread.specs.Links.{Tied, known_tied}
use Rattle.lw_thread.specs.Posting.{IsGoing, TakesBack, KeepsOthers}

module _ {L F M B : Type 0} (letter : M → L) (marked : L → ℕ → ℕ → L) (fits : ℕ → F → M → Type 0) (lawful : Known L F → Asks L → B → Type 0) where
  abbrev pub before_back : ActsEnd M → ℕ → M → List (Post L) → Asks L
  before_back a to m rest = record { live = (asks_of letter a).live; pending = record { to = to; what = letter m } ∷ rest }

  abbrev pub after_back : ActsEnd M → List (Post L) → Asks L
  after_back a rest = record { live = (asks_of letter a).live; pending = letters letter a.pending ++ rest }

  -- the body may be called
  pub back_called : (l : Tied L F) (a a1 a2 : ActsEnd M) (b : B) (to : ℕ) (m : M) → IsGoing letter fits lawful l a b → Leads to m a a1 → a2 ≡ record a1 { pending = [] } → to < a.threads → letter m ≡ blank marked (letter m)
      → AreOf (known_tied l) a2 × IsBack letter marked fits (known_tied l) to m × lawful (known_tied l) (before_back a2 to m (letters letter a1.pending)) b
  back_called l a a1 a2 b to m g lead aside within unmarked =
      let pollers = ap (λ (q : ActsEnd M). q.pollers) aside ∙ ap (λ (q : ActsEnd M). q.pollers) lead.rest in
      let P = λ (p : Post M). FitsRing fits p.to l.recv.family p.what in
      let same : asks_of letter a ≡ before_back a2 to m (letters letter a1.pending) = λ i. record { live = λ n. times n (sym pollers i); pending = letters letter (lead.first i) } in (
        record { threads = ap (λ (q : ActsEnd M). q.threads) aside ∙ ap (λ (q : ActsEnd M). q.threads) lead.rest ∙ g.of.threads; ran = ap (λ (q : ActsEnd M). q.ran) aside ∙ ap (λ (q : ActsEnd M). q.ran) lead.rest ∙ g.of.ran },
        record { its_ring = All-head P (record { to = to; what = m }) a1.pending (subst (λ ps. All P ps) lead.first g.all_fit); in_range = subst (λ n. to < n) g.of.threads within; blank = unmarked },
        subst (λ (q : Asks L). lawful (known_tied l) q b) same g.keeps,
      )

  -- and then goes on
  pub back_going : (l : Tied L F) (a a1 a2 a3 a4 : ActsEnd M) (b d : B) (to : ℕ) (m : M) → IsGoing letter fits lawful l a b → Leads to m a a1 → a2 ≡ record a1 { pending = [] } → to < a.threads → letter m ≡ blank marked (letter m)
      → ((k : Known L F) (rest : List (Post L)) → AreOf k a2 → IsBack letter marked fits k to m → lawful k (before_back a2 to m rest) b → lawful k (after_back a3 rest) d)
      → Adds a2 a3
      → ((k : Known L F) (rest : List (Post L)) → AreOf k a2 → IsBack letter marked fits k to m → lawful k (before_back a2 to m rest) b → AllFit fits k.family a3.pending)
      → a4 ≡ record a3 { pending = a3.pending ++ a1.pending }
      → IsGoing letter fits lawful l a4 d
  back_going l a a1 a2 a3 a4 b d to m g lead aside within unmarked keeps adds fit put =
      let k = known_tied l in
      let may = back_called l a a1 a2 b to m g lead aside within unmarked in
      let P = λ (p : Post M). FitsRing fits p.to l.recv.family p.what in
      let rest = letters letter a1.pending in
      let same : asks_of letter a4 ≡ after_back a3 rest = ap (asks_of letter) put ∙ (λ i. record { live = (asks_of letter a3).live; pending = map-append (λ (p : Post M). record { to = p.to; what = letter p.what }) a3.pending a1.pending i }) in
      record {
        of = record { threads = ap (λ (q : ActsEnd M). q.threads) put ∙ adds.threads ∙ may.0.threads; ran = ap (λ (q : ActsEnd M). q.ran) put ∙ adds.ran ∙ may.0.ran };
        all_fit = subst (λ (ps : List (Post M)). All P ps) (sym (ap (λ (q : ActsEnd M). q.pending) put))
            (All-append P a3.pending a1.pending (fit k rest may.0 may.1 may.2) (All-tail P (record { to = to; what = m }) a1.pending (subst (λ ps. All P ps) lead.first g.all_fit)));
        keeps = subst (λ (q : Asks L). lawful k q d) (sym same) (keeps k rest may.0 may.1 may.2);
      }

  pub back_taken : (takes_back : ℕ → L → Doing M B → Doing M B → Type 0) (a a1 a2 a3 a4 : ActsEnd M) (b d : B) (to : ℕ) (m : M) → Leads to m a a1 → a2 ≡ record a1 { pending = [] }
      → takes_back to (letter m) (record { body = b; acts = a2 }) (record { body = d; acts = a3 })
      → Adds a2 a3
      → a4 ≡ record a3 { pending = a3.pending ++ a1.pending }
      → TakesBack letter takes_back a a4 b d
  back_taken takes_back a a1 a2 a3 a4 b d to m lead aside does adds put =
      let same : a2 ≡ record a { pending = [] } = aside ∙ ap (λ (q : ActsEnd M). record q { pending = [] }) lead.rest in
      record {
        first = record { to = to; what = m };
        rest = a1.pending;
        pending = lead.first;
        done = record { body = d; acts = a3 };
        does = subst (λ (q : ActsEnd M). takes_back to (letter m) (record { body = b; acts = q }) (record { body = d; acts = a3 })) same does;
        adds = subst (λ (q : ActsEnd M). Adds q a3) same adds;
        body = refl;
        acts = put;
      }

-- whatever the body asked for, the others are still to be made
pub others_kept : {M : Type 0} (to : ℕ) (m : M) (a a1 a3 a4 : ActsEnd M) (rest before : List (Post M)) → Leads to m a a1 → rest ≡ a1.pending → a4 ≡ record a3 { pending = before ++ rest } → KeepsOthers a a4
others_kept {M} to m a a1 a3 a4 rest before lead same put = record {
  first = record { to = to; what = m };
  rest = a1.pending;
  pending = lead.first;
  before = before;
  kept = ap (λ (q : ActsEnd M). q.pending) put ∙ ap (λ l. before ++ l) same;
}

-- what follows of what a call that went well says
pub on_three : {T E A C D X : Type 0} (r : Result T E) → (A → C → D → X) → OnOk r A → OnOk r C → OnOk r D → OnOk r X
on_three (Ok x) f a c d = f a c d
on_three (Err e) f a c d = tt

pub on_two : {T E A C X : Type 0} (r : Result T E) → (A → C → X) → OnOk r A → OnOk r C → OnOk r X
on_two (Ok x) f a c = f a c
on_two (Err e) f a c = tt
