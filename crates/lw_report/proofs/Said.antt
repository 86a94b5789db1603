-- What is known of what was read: its parts.
use Rattle.std.proofs.Common.{◌≡◌, ℕ, zero, suc, ◌+◌, Bool, true, false, if◌then◌else◌, List, [], ◌∷◌, length, Option, Some, None, Result, Ok, Err, refl, sym, ap, ◌∙◌}
use Rattle.std.specs.List.{list_all, enumerate_from, AllByRecursion}
use Rattle.std.proofs.lemmas.Bool.{and_from}
use Rattle.lw_report.specs.Machine.{State, ◌>>=◌, one, many_from, numbered}

pub read_parts : {A B : Type 0} (r : Result A ℕ) (f : A → Result B ℕ) (b : B) → r >>= f ≡ Ok b → (a : A) × (r ≡ Ok a) × (f a ≡ Ok b)
read_parts (Ok a) f b e = (a, refl, e)
read_parts (Err n) f b e = cc

pub if_ok : {A : Type 0} (t : Bool) (x y : A) (n : ℕ) → ◌≡◌ {A = Result A ℕ} (if t then Ok x else Err n) (Ok y) → (t ≡ true) × (x ≡ y)
if_ok true x y n e = (refl, cc)
if_ok false x y n e = let wrong : Err n ≡ Ok y = e in cc

pub one_said : {X : Type 0} (f : List ℕ → Option X) (s t : State) (x : X) → one f s ≡ Ok (x, t) → (l : List ℕ) × (f l ≡ Some x)
one_said {X = X} f s t x e = at s.lines e
  where
    by : (l : List ℕ) (ls : List (List ℕ)) (o : Option X) → f l ≡ o
        → ◌≡◌ {A = Result (X × State) ℕ} (elim (elim o as (λ _. Option X × State) [ Some y ↦ (Some y, record { line = s.line + 1; lines = ls }) | None ↦ (None, record { line = s.line; lines = l ∷ ls }) ]).0 [
          | Some y ↦ Ok (y, (elim o as (λ _. Option X × State) [ Some z ↦ (Some z, record { line = s.line + 1; lines = ls }) | None ↦ (None, record { line = s.line; lines = l ∷ ls }) ]).1)
          | None ↦ Err s.line
        ]) (Ok (x, t)) → (l : List ℕ) × (f l ≡ Some x)
    by l ls None is e = let wrong : ◌≡◌ {A = Result (X × State) ℕ} (Err s.line) (Ok (x, t)) = e in cc
    by l ls (Some y) is e = (l, is ∙ ap Some (first_same e))
      where
        first_same : ◌≡◌ {A = Result (X × State) ℕ} (Ok (y, record { line = s.line + 1; lines = ls })) (Ok (x, t)) → y ≡ x
        first_same e = ap (λ (r : Result (X × State) ℕ). elim r [ Ok p ↦ p.0 | Err n ↦ x ]) e

    at : (ls : List (List ℕ)) → one f (record { line = s.line; lines = ls }) ≡ Ok (x, t) → (l : List ℕ) × (f l ≡ Some x)
    at [] e = let wrong : ◌≡◌ {A = Result (X × State) ℕ} (Err s.line) (Ok (x, t)) = e in cc
    at (l ∷ ls) e = by l ls (f l) refl e

pub many_all : {X : Type 0} (f : List ℕ → Option X) (p : X → Bool) → ((l : List ℕ) (x : X) → f l ≡ Some x → p x ≡ true) → (n : ℕ) (ls : List (List ℕ)) → list_all p (many_from f n ls).0 ≡ true
many_all f p each n [] = refl
many_all {X = X} f p each n (l ∷ ls) = at (f l) refl (many_all f p each (n + 1) ls)
  where
    at : (o : Option X) → f l ≡ o → list_all p (many_from f (n + 1) ls).0 ≡ true
        → list_all p (elim o as (λ _. List X × State) [ Some x ↦ (x ∷ (many_from f (n + 1) ls).0, (many_from f (n + 1) ls).1) | None ↦ ([], record { line = n; lines = l ∷ ls }) ]).0 ≡ true
    at None e rest = refl
    at (Some x) e rest = and_from (p x) (list_all p (many_from f (n + 1) ls).0) (each l x e) rest

pub numbered_all : {X : Type 0} (f : ℕ → State → Result (X × State) ℕ) (p : ℕ → X → Bool) → ((n : ℕ) (s t : State) (x : X) → f n s ≡ Ok (x, t) → p n x ≡ true)
    → (k n : ℕ) (s t : State) (xs : List X) → numbered k n f s ≡ Ok (xs, t) → (length xs ≡ k) × (list_all (λ q. p q.0 q.1) (enumerate_from n xs) ≡ true)
numbered_all {X = X} f p each zero n s t xs e =
    let none : [] ≡ xs = ap (λ (r : Result (List X × State) ℕ). elim r [ Ok q ↦ q.0 | Err b ↦ xs ]) e in
    (ap length (sym none), ap (λ ys. list_all (λ (q : ℕ × X). p q.0 q.1) (enumerate_from n ys)) (sym none))
numbered_all {X = X} f p each (suc k) n s t xs e =
    let a = read_parts (f n s) (λ x. numbered k (n + 1) f x.1 >>= (λ ys. Ok (x.0 ∷ ys.0, ys.1))) (xs, t) e in
    let b = read_parts (numbered k (n + 1) f a.0.1) (λ ys. Ok (a.0.0 ∷ ys.0, ys.1)) (xs, t) a.2 in
    let rest = numbered_all f p each k (n + 1) a.0.1 b.0.1 b.0.0 b.1 in
    let all : a.0.0 ∷ b.0.0 ≡ xs = ap (λ (r : Result (List X × State) ℕ). elim r [ Ok q ↦ q.0 | Err m ↦ xs ]) b.2 in (
      sym (ap length all) ∙ ap suc rest.0,
      ap (λ ys. list_all (λ (q : ℕ × X). p q.0 q.1) (enumerate_from n ys)) (sym all)
          ∙ and_from (p n a.0.0) (list_all (λ q. p q.0 q.1) (enumerate_from (n + 1) b.0.0)) (each n s a.0.1 a.0.0 a.1) rest.1,
    )

-- what holds of each line of a kind holds of all that are read
pub many_fit : {X : Type 0} (f : List ℕ → Option X) (P : X → Type 0) → ((l : List ℕ) (x : X) → f l ≡ Some x → P x) → (n : ℕ) (ls : List (List ℕ)) → AllByRecursion P (many_from f n ls).0
many_fit f P each n [] = tt
many_fit {X = X} f P each n (l ∷ ls) = at (f l) refl (many_fit f P each (n + 1) ls)
  where
    at : (o : Option X) → f l ≡ o → AllByRecursion P (many_from f (n + 1) ls).0
        → AllByRecursion P (elim o as (λ _. List X × State) [ Some x ↦ (x ∷ (many_from f (n + 1) ls).0, (many_from f (n + 1) ls).1) | None ↦ ([], record { line = n; lines = l ∷ ls }) ]).0
    at None e rest = tt
    at (Some x) e rest = (each l x e, rest)

-- the parts of one line each
pub one_each : {X : Type 0} (f : List ℕ → Option X) (P : X → Type 0) → ((l : List ℕ) (x : X) → f l ≡ Some x → P x) → (s t : State) (x : X) → one f s ≡ Ok (x, t) → P x
one_each f P each s t x e = let a = one_said f s t x e in each a.0 x a.1
