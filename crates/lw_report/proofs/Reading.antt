-- Loops of the machine, one turn at a time.
use Rattle.std.proofs.Common.{◌≡◌, ℕ, ◌+◌, ◌-◌, ◌<◌, List, [], ◌∷◌, ◌++◌, Option, Some, None, Result, Ok, Err, append_assoc, append-nil, refl, sym, ap, ◌∙◌}
use Rattle.lw_report.specs.declared.lines.Stop.{Stop}
use Rattle.lw_report.specs.declared.lines.Stop.TheVariants.{BadLine, NoMemory}
use Rattle.lw_report.specs.Machine.{State, Says, SaysList, taken, many, many_from, numbered, ◌>>=◌}
use Rattle.lw_report_lines.proofs.Results.{one_less}

abbrev pub state : ℕ → List (List ℕ) → State
state n ls = record { line = n; lines = ls }

-- items so far, before those that are still to be read
abbrev pub behind : {X : Type 0} → List X → List X × State → List X × State
behind xs p = (xs ++ p.0, p.1)

-- what one line more makes of all lines of a kind
pub many_step : {X : Type 0} (f : List ℕ → Option X) (s : State) → many f s ≡ elim (taken f s).0 [ Some x ↦ behind (x ∷ []) (many f (taken f s).1) | None ↦ ([], (taken f s).1) ]
many_step {X = X} f s = at s.lines
  where
    at : (ls : List (List ℕ)) → many_from f s.line ls ≡ elim (taken f (record { line = s.line; lines = ls })).0 [ Some x ↦ behind (x ∷ []) (many f (taken f (record { line = s.line; lines = ls })).1) | None ↦ ([], (taken f (record { line = s.line; lines = ls })).1) ]
    at [] = refl
    at (l ∷ ls) = by (f l)
      where
        by : (o : Option X) → ◌≡◌ {A = List X × State} (elim o [ Some x ↦ (x ∷ (many_from f (s.line + 1) ls).0, (many_from f (s.line + 1) ls).1) | None ↦ ([], record { line = s.line; lines = l ∷ ls }) ])
            (elim (elim o as (λ _. Option X × State) [ Some x ↦ (Some x, record { line = s.line + 1; lines = ls }) | None ↦ (None, record { line = s.line; lines = l ∷ ls }) ]).0 [
              | Some x ↦ behind (x ∷ []) (many f (elim o as (λ _. Option X × State) [ Some x ↦ (Some x, record { line = s.line + 1; lines = ls }) | None ↦ (None, record { line = s.line; lines = l ∷ ls }) ]).1)
              | None ↦ ([], (elim o as (λ _. Option X × State) [ Some x ↦ (Some x, record { line = s.line + 1; lines = ls }) | None ↦ (None, record { line = s.line; lines = l ∷ ls }) ]).1)
            ])
        by None = refl
        by (Some x) = refl

-- one line more in the loop over a kind
pub many_more : {X : Type 0} (f : List ℕ → Option X) (s t : State) (x : X) (xs : List X) → (Some x, t) ≡ taken f s → behind xs (many f s) ≡ behind (xs ++ x ∷ []) (many f t)
many_more {X = X} f s t x xs e =
    ap (behind xs) (many_step f s)
    ∙ ap (λ (p : Option X × State). behind xs (elim p.0 [ Some y ↦ behind (y ∷ []) (many f p.1) | None ↦ ([], p.1) ])) (sym e)
    ∙ ap (λ q. (q, (many f t).1)) (sym (append_assoc xs (x ∷ []) (many f t).0))

-- no line more
pub many_end : {X : Type 0} (f : List ℕ → Option X) (s t : State) (xs : List X) → (None, t) ≡ taken f s → behind xs (many f s) ≡ (xs, t)
many_end {X = X} f s t xs e =
    ap (behind xs) (many_step f s)
    ∙ ap (λ (p : Option X × State). behind xs (elim p.0 [ Some y ↦ behind (y ∷ []) (many f p.1) | None ↦ ([], p.1) ])) (sym e)
    ∙ ap (λ q. (q, t)) (append-nil xs)

-- parts so far, before those that are still to be read
abbrev pub before : {X : Type 0} → List X → Result (List X × State) ℕ → Result (List X × State) ℕ
before xs r = elim r [ Ok p ↦ Ok (xs ++ p.0, p.1) | Err n ↦ Err n ]

-- what is read behind one part
abbrev and_rest : {X : Type 0} → (ℕ → State → Result (X × State) ℕ) → ℕ → ℕ → Result (X × State) ℕ → Result (List X × State) ℕ
and_rest f k n r = r >>= (λ x. numbered k n f x.1 >>= (λ xs. Ok (x.0 ∷ xs.0, xs.1)))

pub numbered_more : {X : Type 0} (f : ℕ → State → Result (X × State) ℕ) (n i : ℕ) (s t : State) (x : X) (xs : List X) → i < n → f i s ≡ Ok (x, t)
    → before xs (numbered (n - i) i f s) ≡ before (xs ++ x ∷ []) (numbered (n - (i + 1)) (i + 1) f t)
numbered_more {X = X} f n i s t x xs h e =
    ap (λ k. before xs (numbered k i f s)) (one_less n i h)
    ∙ ap (λ r. before xs (and_rest f (n - (i + 1)) (i + 1) r)) e
    ∙ at (numbered (n - (i + 1)) (i + 1) f t)
  where
    at : (r : Result (List X × State) ℕ) → before xs (r >>= (λ p. Ok (x ∷ p.0, p.1))) ≡ before (xs ++ x ∷ []) r
    at (Ok p) = ap (λ q. Ok (q, p.1)) (sym (append_assoc xs (x ∷ []) p.0))
    at (Err b) = refl

pub numbered_bad : {X : Type 0} (f : ℕ → State → Result (X × State) ℕ) (n i : ℕ) (s : State) (b : ℕ) (xs : List X) → i < n → f i s ≡ Err b → before xs (numbered (n - i) i f s) ≡ Err b
numbered_bad f n i s b xs h e =
    ap (λ k. before xs (numbered k i f s)) (one_less n i h) ∙ ap (λ r. before xs (and_rest f (n - (i + 1)) (i + 1) r)) e

pub numbered_end : {X : Type 0} (f : ℕ → State → Result (X × State) ℕ) (k i : ℕ) (s : State) (xs : List X) → k ≡ 0 → before xs (numbered k i f s) ≡ Ok (xs, s)
numbered_end f k i s xs e = ap (λ k. before xs (numbered k i f s)) e ∙ ap (λ q. Ok (q, s)) (append-nil xs)

-- where a part stops, all of them do
pub stop_says : {X : Type 0} (f : ℕ → State → Result (X × State) ℕ) (n i : ℕ) (first s t : State) (xs : List X) (stop : Stop) → i < n
    → Says {X = X} (Err stop) t (f i s) → numbered n 0 f first ≡ before xs (numbered (n - i) i f s) → SaysList {X = X} (Err stop) t (numbered n 0 f first)
stop_says f n i first s t xs BadLine h says e = e ∙ numbered_bad f n i s t.line xs h says
stop_says f n i first s t xs NoMemory h says e = tt
