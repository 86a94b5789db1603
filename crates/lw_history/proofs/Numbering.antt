-- Sends under their numbers: what goes to each thread of them, and what numbering leaves as it is.
use Rattle.std.proofs.Common.{◌≡◌, ℕ, ◌+◌, ◌==◌, Bool, true, false, List, [], ◌∷◌, ◌++◌, map, length, refl, sym, ap, ap₂, ◌∙◌, append_assoc}
use Rattle.std.specs.List.{flat_map}
use Rattle.std.proofs.lemmas.Bool.{eqb-true}
use Rattle.std.proofs.lemmas.List.{append-nil, length-append}
use Rattle.lw_base.specs.declared.message.What.{What}
use Rattle.lw_model.specs.Sent.{to_thread}
use Rattle.lw_whole.specs.Letters.{Letter, Load}
use Rattle.lw_whole.specs.Logs.{addressed}
use Rattle.lw_whole.specs.Unsent.{named, named_from}
use Rattle.lw_whole.proofs.Unsent.{to_append}
use Rattle.lw_history.specs.Histories.{numbered, numbered_each, flat}
use Rattle.lw_history.proofs.Made.{to_this, to_another}

-- what goes to a thread, of a first send and others
to_front : (u : ℕ) (p : ℕ × Letter) (ps : List (ℕ × Letter)) → to_thread u (p ∷ ps) ≡ to_thread u (p ∷ []) ++ to_thread u ps
to_front u p ps = to_append u (p ∷ []) ps

pub to_numbered : (s u : ℕ) (before ps : List (ℕ × Letter)) → to_thread u (numbered s before ps) ≡ named_from s (length (to_thread u before)) (to_thread u ps)
to_numbered s u before [] = refl
to_numbered s u before (p ∷ rest) =
    to_front u q (numbered s (before ++ p ∷ []) rest)
    ∙ ap (λ l. to_thread u (q ∷ []) ++ l) (to_numbered s u (before ++ p ∷ []) rest)
    ∙ at (p.0 == u) refl
    ∙ ap (named_from s (length (to_thread u before))) (sym (to_front u p rest))
  where
    q : ℕ × Letter
    q = (p.0, named p.1 s (length (to_thread p.0 before)))

    at : (b : Bool) → (p.0 == u) ≡ b
        → to_thread u (q ∷ []) ++ named_from s (length (to_thread u (before ++ p ∷ []))) (to_thread u rest) ≡ named_from s (length (to_thread u before)) (to_thread u (p ∷ []) ++ to_thread u rest)
    at true e =
        let is : p.0 ≡ u = eqb-true p.0 u e in
        let more : length (to_thread u (before ++ p ∷ [])) ≡ length (to_thread u before) + 1 =
        ap length (to_append u before (p ∷ []) ∙ ap (λ l. to_thread u before ++ l) (to_this u p e)) ∙ length-append (to_thread u before) (p.1 ∷ [])
        in
        ap (λ l. l ++ named_from s (length (to_thread u (before ++ p ∷ []))) (to_thread u rest)) (to_this u q e)
        ∙ ap₂ (λ (k n : ℕ). named p.1 s (length (to_thread k before)) ∷ named_from s n (to_thread u rest)) is more
        ∙ ap (λ l. named_from s (length (to_thread u before)) (l ++ to_thread u rest)) (sym (to_this u p e))
    at false e =
        ap (λ l. l ++ named_from s (length (to_thread u (before ++ p ∷ []))) (to_thread u rest)) (to_another u q e)
        ∙ ap (λ l. named_from s (length l) (to_thread u rest)) (to_append u before (p ∷ []) ∙ ap (λ l. to_thread u before ++ l) (to_another u p e) ∙ append-nil (to_thread u before))
        ∙ ap (λ l. named_from s (length (to_thread u before)) (l ++ to_thread u rest)) (sym (to_another u p e))

pub numbered-append : (s : ℕ) (before ps qs : List (ℕ × Letter)) → numbered s before (ps ++ qs) ≡ numbered s before ps ++ numbered s (before ++ ps) qs
numbered-append s before [] qs = ap (λ b. numbered s b qs) (sym (append-nil before))
numbered-append s before (p ∷ ps) qs =
    ap (λ l. (p.0, named p.1 s (length (to_thread p.0 before))) ∷ l) (numbered-append s (before ++ p ∷ []) ps qs ∙ ap (λ b. numbered s (before ++ p ∷ []) ps ++ numbered s b qs) (append_assoc before (p ∷ []) ps))

pub flat_numbered : (s : ℕ) (before : List (ℕ × Letter)) (sends : List (List (ℕ × Letter))) → flat_map (λ now. now) (numbered_each s before sends) ≡ numbered s before (flat sends)
flat_numbered s before [] = refl
flat_numbered s before (now ∷ rest) = ap (λ l. numbered s before now ++ l) (flat_numbered s (before ++ now) rest) ∙ sym (numbered-append s before now (flat rest))

pub flat_push : (sends : List (List (ℕ × Letter))) (now : List (ℕ × Letter)) → flat (sends ++ now ∷ []) ≡ flat sends ++ now
flat_push [] now = append-nil now
flat_push (x ∷ xs) now = ap (λ l. x ++ l) (flat_push xs now) ∙ sym (append_assoc x (flat xs) now)

pub numbered_each_push : (s : ℕ) (before : List (ℕ × Letter)) (sends : List (List (ℕ × Letter))) (now : List (ℕ × Letter))
    → numbered_each s before (sends ++ now ∷ []) ≡ numbered_each s before sends ++ numbered s (before ++ flat sends) now ∷ []
numbered_each_push s before [] now = ap (λ b. numbered s b now ∷ []) (sym (append-nil before))
numbered_each_push s before (x ∷ xs) now =
    ap (λ l. numbered s before x ∷ l) (numbered_each_push s (before ++ x) xs now ∙ ap (λ b. numbered_each s (before ++ x) xs ++ numbered s b now ∷ []) (append_assoc before x (flat xs)))

-- a number changes neither the receivers, nor what the messages are, nor what they carry
pub addressed_numbered : (s : ℕ) (before ps : List (ℕ × Letter)) → addressed (numbered s before ps) ≡ addressed ps
addressed_numbered s before [] = refl
addressed_numbered s before (p ∷ ps) = ap (λ (l : List (ℕ × What)). (p.0, p.1.tag.what) ∷ l) (addressed_numbered s (before ++ p ∷ []) ps)

pub loads_numbered : (s : ℕ) (before ps : List (ℕ × Letter)) → map (λ p. p.1.load) (numbered s before ps) ≡ map (λ p. p.1.load) ps
loads_numbered s before [] = refl
loads_numbered s before (p ∷ ps) = ap (λ (l : List Load). p.1.load ∷ l) (loads_numbered s (before ++ p ∷ []) ps)

pub none_numbered : (s : ℕ) (before ps : List (ℕ × Letter)) → ps ≡ [] → numbered s before ps ≡ []
none_numbered s before ps e = ap (numbered s before) e
