-- A list that grows or shrinks at its end.
use Rattle.std.proofs.Common.{◌≡◌, ℕ, zero, suc, ◌+◌, ◌<◌, List, [], ◌∷◌, ◌++◌, length, get_or, All, Option, Some, None, ◌∙◌, refl, sym, subst, arith}
use Rattle.lw_base.specs.Letters.{list_at, total_length}
use Rattle.lw_ring.specs.Ends.{closed_of, Receiving}
use Rattle.lw_latch.specs.RingEnds.{RingEnd}
use Rattle.lw_ring.proofs.Counts.{below, below_none, below_first}
use Rattle.std.proofs.lemmas.List.Elements.{All-head, All-tail, All-cons, All-nil}

pub push_each : {X : Type 0} (P : ℕ → X → Type 0) (xs ys : List X) (x : X) (n : ℕ) → ys ≡ xs ++ x ∷ [] → length xs ≡ n → ((k : ℕ) (d : X) → k < n → P k (get_or xs k d)) → P n x → (k : ℕ) (d : X) → k < n + 1 → P k (get_or ys k d)
push_each {X} P xs ys x n is len old new k d l = subst (λ (zs : List X). P k (get_or zs k d)) (sym is) (go P xs n len old new k d l)
  where
    go : (P : ℕ → X → Type 0) (xs : List X) (n : ℕ) → length xs ≡ n → ((k : ℕ) (d : X) → k < n → P k (get_or xs k d)) → P n x → (k : ℕ) (d : X) → k < n + 1 → P k (get_or (xs ++ x ∷ []) k d)
    go P [] n len old new zero d l = subst (λ (m : ℕ). P m x) (sym len) new
    go P [] n len old new (suc k) d l = absurd (omega arith)
    go P (y ∷ ys) zero len old new k d l = absurd (omega arith)
    go P (y ∷ ys) (suc n) len old new zero d l = old zero d (omega arith)
    go P (y ∷ ys) (suc n) len old new (suc k) d l = go (λ j. P (suc j)) ys n (omega arith) (λ j e m. old (suc j) e (omega arith)) new k d (omega arith)

pub split_last : {X : Type 0} (P : X → Type 0) (ys xs : List X) (x : X) → ys ≡ xs ++ x ∷ [] → All P ys → All P xs × P x
split_last {X} P ys xs x is all = go xs (subst (λ (zs : List X). All P zs) is all)
  where
    go : (xs : List X) → All P (xs ++ x ∷ []) → All P xs × P x
    go [] all = (All-nil P, All-head P x [] all)
    go (y ∷ ys) all = let r = go ys (All-tail P y (ys ++ x ∷ []) all) in (All-cons P y ys (All-head P y (ys ++ x ∷ []) all) r.0, r.1)

pub total_length-push : {L : Type 0} (xs : List (List L)) (y : List L) → total_length (xs ++ y ∷ []) ≡ total_length xs + length y
total_length-push [] y = omega arith
total_length-push (x ∷ xs) y = let r = total_length-push xs y in omega arith

pub total_length-below : {L : Type 0} (xs : List (List L)) → total_length xs ≡ below (length xs) (λ p. length (list_at xs p))
total_length-below [] = sym (below_none 0 (λ p. 0) (λ p. refl))
total_length-below (x ∷ xs) = let r = total_length-below xs in let s = below_first (length xs) (λ p. length (list_at (x ∷ xs) p)) in omega arith

pub receiving_more : (l : Option RingEnd) (n f t u : ℕ) → (closed_of l ≡ 1 → t ≡ u) → Receiving l n f t → Receiving l n f u
receiving_more None n f t u same r = tt
receiving_more (Some e) n f t u same r = record { parts = r.parts; finished = r.finished; closed_at = λ c. r.closed_at c ∙ same c }
