-- A reader of lines is local: what it says up to a line depends on no line behind it.
use Rattle.std.proofs.Common.{◌≡◌, ◌≤◌, ◌<◌, ℕ, zero, suc, ◌+◌, ◌-◌, if◌then◌else◌, List, [], ◌∷◌, take, Option, Some, None, Result, Ok, Err, refl, sym, ap, ◌∙◌, subst, arith}
use Rattle.lw_report.specs.Machine.{State, ◌>>=◌, taken, one, many_from, many, numbered}
use Rattle.lw_base.specs.TextLines.{is_nil}

abbrev pub state : ℕ → List (List ℕ) → State
state n ls = record { line = n; lines = ls }

-- two states with the same lines before a line
pub record Agree (end : ℕ) (s t : State) : Type 0 where
  pub line : s.line ≡ t.line
  pub lines : take (end - s.line) s.lines ≡ take (end - s.line) t.lines

-- what is read, and the state behind it
abbrev pub Reader : Type 0 → Type 0
Reader X = State → Result (X × State) ℕ

-- it reads forward, and what it says before a line is said of each text that agrees up to that line
pub record Local {X : Type 0} (P : Reader X) : Type 0 where
  pub fails_on : (s : State) (m : ℕ) → P s ≡ Err m → s.line ≤ m
  pub goes_on : (s s' : State) (x : X) → P s ≡ Ok (x, s') → s.line ≤ s'.line
  pub fails : (end : ℕ) (s t : State) (m : ℕ) → Agree end s t → P s ≡ Err m → m < end → P t ≡ Err m
  pub reads : (end : ℕ) (s t s' : State) (x : X) → Agree end s t → P s ≡ Ok (x, s') → s'.line < end → (t' : State) × (P t ≡ Ok (x, t')) × Agree end s' t'

-- ---- lists that agree in front

-- a list whose visible part is that of a list that is empty
nothing_more : (k : ℕ) (ls : List (List ℕ)) → take (suc k) [] ≡ take (suc k) ls → ls ≡ []
nothing_more k [] e = refl
nothing_more k (l ∷ ls) e = let wrong : [] ≡ l ∷ take k ls = e in cc

-- the first line, and what stands behind it, of a list whose visible part begins with it
first_same : (k : ℕ) (l : List ℕ) (ls ms : List (List ℕ)) → take (suc k) (l ∷ ls) ≡ take (suc k) ms → (rest : List (List ℕ)) × (ms ≡ l ∷ rest) × (take k ls ≡ take k rest)
first_same k l ls [] e = let wrong : l ∷ take k ls ≡ [] = e in cc
first_same k l ls (m ∷ ms) e =
    let same : l ∷ take k ls ≡ m ∷ take k ms = e in
    let first : l ≡ m = cc in
    let rest : take k ls ≡ take k ms = cc in
    (ms, ap (λ x. x ∷ ms) (sym first), rest)

visible : (end n : ℕ) → n < end → (k : ℕ) × (end - n ≡ suc k)
visible end n h = (end - n - 1, omega (arith, h))

-- ---- readers

module _ {X : Type 0} where
  ok_value : {x y : X} {s t : State} → ◌≡◌ {A = Result (X × State) ℕ} (Ok (x, s)) (Ok (y, t)) → (x ≡ y) × (s ≡ t)
  ok_value {x = x} {y = y} {s = s} {t = t} e = let pair : ◌≡◌ {A = X × State} (x, s) (y, t) = cc in (ap (λ p. p.0) pair, ap (λ p. p.1) pair)

  err_value : {m n : ℕ} → ◌≡◌ {A = Result (X × State) ℕ} (Err m) (Err n) → m ≡ n
  err_value e = cc

  pub not_ok : {x : X} {s : State} {m : ℕ} {C : Type 0} → ◌≡◌ {A = Result (X × State) ℕ} (Ok (x, s)) (Err m) → C
  not_ok e = cc

  not_err : {x : X} {s : State} {m : ℕ} {C : Type 0} → ◌≡◌ {A = Result (X × State) ℕ} (Err m) (Ok (x, s)) → C
  not_err e = cc

  -- a value without a line
  pub pure_local : (x : X) → Local (λ s. Ok (x, s))
  pure_local x = record {
    fails_on = λ s m e. not_ok e;
    goes_on = λ s s' y e. let same : s ≡ s' = (ok_value e).1 in omega (arith, ap (λ z. z.line) same);
    fails = λ end s t m a e below. not_ok e;
    reads = λ end s t s' y a e below. (t, ap (λ z. Ok (z, t)) (ok_value e).0, subst (λ z. Agree end z t) (ok_value e).1 a);
  }

  -- the next line is bad
  pub bad_local : Local {X = X} (λ s. Err s.line)
  bad_local = record {
    fails_on = λ s m e. let same = err_value e in omega (arith, same);
    goes_on = λ s s' y e. not_err e;
    fails = λ end s t m a e below. ap Err (sym a.line ∙ err_value e);
    reads = λ end s t s' y a e below. not_err e;
  }

-- one reader behind another
module _ {X Y : Type 0} (P : Reader X) (Q : X → Reader Y) (first : Local P) (next : (x : X) → Local (Q x)) where
  abbrev both : Reader Y
  both s = P s >>= (λ p. Q p.0 p.1)

  both_fails_on : (s : State) (m : ℕ) (r : Result (X × State) ℕ) → P s ≡ r → r >>= (λ p. Q p.0 p.1) ≡ Err m → s.line ≤ m
  both_fails_on s m (Ok p) is e = let a = first.goes_on s p.1 p.0 is in let b = (next p.0).fails_on p.1 m e in omega (arith, a, b)
  both_fails_on s m (Err n) is e = let same : n ≡ m = err_value e in let a = first.fails_on s n is in omega (arith, a, same)

  both_goes_on : (s s' : State) (y : Y) (r : Result (X × State) ℕ) → P s ≡ r → r >>= (λ p. Q p.0 p.1) ≡ Ok (y, s') → s.line ≤ s'.line
  both_goes_on s s' y (Ok p) is e = let a = first.goes_on s p.1 p.0 is in let b = (next p.0).goes_on p.1 s' y e in omega (arith, a, b)
  both_goes_on s s' y (Err n) is e = not_err e

  both_fails : (end : ℕ) (s t : State) (m : ℕ) (r : Result (X × State) ℕ) → P s ≡ r → Agree end s t → r >>= (λ p. Q p.0 p.1) ≡ Err m → m < end → both t ≡ Err m
  both_fails end s t m (Ok p) is a e below =
      let later = (next p.0).fails_on p.1 m e in
      let read = first.reads end s t p.1 p.0 a is (omega (arith, later, below)) in
      ap (λ r. r >>= (λ q. Q q.0 q.1)) read.1 ∙ (next p.0).fails end p.1 read.0 m read.2 e below
  both_fails end s t m (Err n) is a e below =
      let same : n ≡ m = err_value e in
      ap (λ r. r >>= (λ q. Q q.0 q.1)) (first.fails end s t n a is (omega (arith, same, below))) ∙ e

  both_reads : (end : ℕ) (s t s' : State) (y : Y) (r : Result (X × State) ℕ) → P s ≡ r → Agree end s t → r >>= (λ p. Q p.0 p.1) ≡ Ok (y, s') → s'.line < end
      → (t' : State) × (both t ≡ Ok (y, t')) × Agree end s' t'
  both_reads end s t s' y (Ok p) is a e below =
      let later = (next p.0).goes_on p.1 s' y e in
      let read = first.reads end s t p.1 p.0 a is (omega (arith, later, below)) in
      let rest = (next p.0).reads end p.1 read.0 s' y read.2 e below in
      (rest.0, ap (λ r. r >>= (λ q. Q q.0 q.1)) read.1 ∙ rest.1, rest.2)
  both_reads end s t s' y (Err n) is a e below = not_err e

  pub both_local : Local both
  both_local = record {
    fails_on = λ s m e. both_fails_on s m (P s) refl e;
    goes_on = λ s s' y e. both_goes_on s s' y (P s) refl e;
    fails = λ end s t m a e below. both_fails end s t m (P s) refl a e below;
    reads = λ end s t s' y a e below. both_reads end s t s' y (P s) refl a e below;
  }

-- ---- lines

module _ {X : Type 0} (f : List ℕ → Option X) where
  -- what one line says
  abbrev said : ℕ → List (List ℕ) → Option X → Result (X × State) ℕ
  said n ls (Some x) = Ok (x, state (n + 1) ls)
  said n ls None = Err n

  one_cons : (n : ℕ) (l : List ℕ) (ls : List (List ℕ)) (o : Option X) → f l ≡ o → one f (state n (l ∷ ls)) ≡ said n ls o
  one_cons n l ls (Some x) e = ap (λ (o : Option X). elim (elim o as (λ _. Option X × State) [ Some y ↦ (Some y, state (n + 1) ls) | None ↦ (None, state n (l ∷ ls)) ]).0 as (λ _. Result (X × State) ℕ) [ Some y ↦ Ok (y, (elim o as (λ _. Option X × State) [ Some z ↦ (Some z, state (n + 1) ls) | None ↦ (None, state n (l ∷ ls)) ]).1) | None ↦ Err n ]) e
  one_cons n l ls None e = ap (λ (o : Option X). elim (elim o as (λ _. Option X × State) [ Some y ↦ (Some y, state (n + 1) ls) | None ↦ (None, state n (l ∷ ls)) ]).0 as (λ _. Result (X × State) ℕ) [ Some y ↦ Ok (y, (elim o as (λ _. Option X × State) [ Some z ↦ (Some z, state (n + 1) ls) | None ↦ (None, state n (l ∷ ls)) ]).1) | None ↦ Err n ]) e

  one_fails_on : (n : ℕ) (ls : List (List ℕ)) (m : ℕ) → one f (state n ls) ≡ Err m → n ≡ m
  one_fails_on n [] m e = err_value e
  one_fails_on n (l ∷ ls) m e = at (f l) refl
    where
      at : (o : Option X) → f l ≡ o → n ≡ m
      at (Some x) is = not_ok (sym (one_cons n l ls (Some x) is) ∙ e)
      at None is = err_value (sym (one_cons n l ls None is) ∙ e)

  one_goes_on : (n : ℕ) (ls : List (List ℕ)) (x : X) (s' : State) → one f (state n ls) ≡ Ok (x, s') → s'.line ≡ n + 1
  one_goes_on n [] x s' e = not_err e
  one_goes_on n (l ∷ ls) x s' e = at (f l) refl
    where
      at : (o : Option X) → f l ≡ o → s'.line ≡ n + 1
      at (Some y) is = sym (ap (λ z. z.line) (ok_value (sym (one_cons n l ls (Some y) is) ∙ e)).1)
      at None is = not_err (sym (one_cons n l ls None is) ∙ e)

  one_fails : (k n m : ℕ) (ls ms : List (List ℕ)) → take (suc k) ls ≡ take (suc k) ms → one f (state n ls) ≡ Err m → one f (state n ms) ≡ Err m
  one_fails k n m [] ms a e = ap (λ z. one f (state n z)) (nothing_more k ms a) ∙ e
  one_fails k n m (l ∷ ls) ms a e = at (f l) refl
    where
      at : (o : Option X) → f l ≡ o → one f (state n ms) ≡ Err m
      at (Some x) is = not_ok (sym (one_cons n l ls (Some x) is) ∙ e)
      at None is = let front = first_same k l ls ms a in
          ap (λ z. one f (state n z)) front.1 ∙ one_cons n l front.0 None is ∙ sym (one_cons n l ls None is) ∙ e

  one_reads : (k n : ℕ) (ls ms : List (List ℕ)) (x : X) (s' : State) → take (suc k) ls ≡ take (suc k) ms → one f (state n ls) ≡ Ok (x, s')
      → (rest : List (List ℕ)) × (one f (state n ms) ≡ Ok (x, state (n + 1) rest)) × (take k s'.lines ≡ take k rest)
  one_reads k n [] ms x s' a e = not_err e
  one_reads k n (l ∷ ls) ms x s' a e = at (f l) refl
    where
      at : (o : Option X) → f l ≡ o → (rest : List (List ℕ)) × (one f (state n ms) ≡ Ok (x, state (n + 1) rest)) × (take k s'.lines ≡ take k rest)
      at (Some y) is =
          let front = first_same k l ls ms a in
          let value = ok_value (sym (one_cons n l ls (Some y) is) ∙ e) in (
            front.0,
            ap (λ z. one f (state n z)) front.1 ∙ one_cons n l front.0 (Some y) is ∙ ap (λ z. Ok (z, state (n + 1) front.0)) value.0,
            ap (λ (z : State). take k z.lines) (sym value.1) ∙ front.2,
          )
      at None is = not_err (sym (one_cons n l ls None is) ∙ e)

  pub one_local : Local (one f)
  one_local = record {
    fails_on = λ s m e. let same = one_fails_on s.line s.lines m e in omega (arith, same);
    goes_on = λ s s' x e. let same = one_goes_on s.line s.lines x s' e in omega (arith, same);
    fails = λ end s t m a e below.
        let same = one_fails_on s.line s.lines m e in
        let some = visible end s.line (omega (arith, same, below)) in
        ap (λ n. one f (state n t.lines)) (sym a.line)
        ∙ one_fails some.0 s.line m s.lines t.lines (subst (λ k. take k s.lines ≡ take k t.lines) some.1 a.lines) e;
    reads = λ end s t s' x a e below.
        let next = one_goes_on s.line s.lines x s' e in
        let some = visible end s.line (omega (arith, next, below)) in
        let read = one_reads some.0 s.line s.lines t.lines x s' (subst (λ k. take k s.lines ≡ take k t.lines) some.1 a.lines) e in
        let left : end - s'.line ≡ some.0 = omega (arith, next, below, some.1) in (
          state (s.line + 1) read.0,
          ap (λ n. one f (state n t.lines)) (sym a.line) ∙ read.1,
          record { line = next; lines = subst (λ k. take k s'.lines ≡ take k read.0) (sym left) read.2 },
        );
  }

  -- ---- a line that may be of the kind

  abbrev perhaps : ℕ → List ℕ → List (List ℕ) → Option X → Option X × State
  perhaps n l ls (Some x) = (Some x, state (n + 1) ls)
  perhaps n l ls None = (None, state n (l ∷ ls))

  taken_cons : (n : ℕ) (l : List ℕ) (ls : List (List ℕ)) (o : Option X) → f l ≡ o → taken f (state n (l ∷ ls)) ≡ perhaps n l ls o
  taken_cons n l ls (Some x) e = ap (λ (o : Option X). elim o as (λ _. Option X × State) [ Some y ↦ (Some y, state (n + 1) ls) | None ↦ (None, state n (l ∷ ls)) ]) e
  taken_cons n l ls None e = ap (λ (o : Option X). elim o as (λ _. Option X × State) [ Some y ↦ (Some y, state (n + 1) ls) | None ↦ (None, state n (l ∷ ls)) ]) e

  taken_goes_on : (n : ℕ) (ls : List (List ℕ)) → n ≤ (taken f (state n ls)).1.line
  taken_goes_on n [] = omega arith
  taken_goes_on n (l ∷ ls) = at (f l) refl
    where
      at : (o : Option X) → f l ≡ o → n ≤ (taken f (state n (l ∷ ls))).1.line
      at (Some x) is = subst (λ (p : Option X × State). n ≤ p.1.line) (sym (taken_cons n l ls (Some x) is)) (omega arith)
      at None is = subst (λ (p : Option X × State). n ≤ p.1.line) (sym (taken_cons n l ls None is)) (omega arith)

  -- the same line is taken or none, and what is left agrees
  abbrev SameLine : ℕ → Option X × State → Option X × State → Type 0
  SameLine end p q = (q.0 ≡ p.0) × Agree end p.1 q.1

  taken_reads : (end n : ℕ) (ls ms : List (List ℕ)) → take (end - n) ls ≡ take (end - n) ms → n < end → SameLine end (taken f (state n ls)) (taken f (state n ms))
  taken_reads end n [] ms a below =
      let some = visible end n below in
      let none : ms ≡ [] = nothing_more some.0 ms (subst (λ k. take k [] ≡ take k ms) some.1 a) in
      subst (λ z. SameLine end (taken f (state n [])) (taken f (state n z))) (sym none) (refl, record { line = refl; lines = refl })
  taken_reads end n (l ∷ ls) ms a below = at (f l) refl
    where
      at : (o : Option X) → f l ≡ o → SameLine end (taken f (state n (l ∷ ls))) (taken f (state n ms))
      at o is =
          let some = visible end n below in
          let front = first_same some.0 l ls ms (subst (λ k. take k (l ∷ ls) ≡ take k ms) some.1 a) in
          subst (λ z. SameLine end (taken f (state n (l ∷ ls))) (taken f (state n z))) (sym front.1)
          (subst (λ p. SameLine end p (taken f (state n (l ∷ front.0)))) (sym (taken_cons n l ls o is))
          (subst (λ q. SameLine end (perhaps n l ls o) q) (sym (taken_cons n l front.0 o is)) (by o front.0 some.0 some.1 front.2 (a ∙ ap (take (end - n)) front.1))))
        where
          by : (o : Option X) (rest : List (List ℕ)) (k : ℕ) → end - n ≡ suc k → take k ls ≡ take k rest → take (end - n) (l ∷ ls) ≡ take (end - n) (l ∷ rest) → SameLine end (perhaps n l ls o) (perhaps n l rest o)
          by (Some x) rest k is behind all = let left : end - (n + 1) ≡ k = omega (arith, is) in (refl, record { line = refl; lines = subst (λ k. take k ls ≡ take k rest) (sym left) behind })
          by None rest k is behind all = (refl, record { line = refl; lines = all })

  pub taken_local : Local (λ s. Ok (taken f s))
  taken_local = record {
    fails_on = λ s m e. not_ok e;
    goes_on = λ s s' o e. subst (λ (z : State). s.line ≤ z.line) (ok_value e).1 (taken_goes_on s.line s.lines);
    fails = λ end s t m a e below. not_ok e;
    reads = λ end s t s' o a e below.
        let is : (taken f s).1 ≡ s' = (ok_value e).1 in
        let from = taken_goes_on s.line s.lines in
        let last : (taken f s).1.line ≡ s'.line = ap (λ (z : State). z.line) is in
        let read = taken_reads end s.line s.lines t.lines a.lines (omega (arith, from, last, below)) in
        let same : taken f t ≡ taken f (state s.line t.lines) = ap (λ n. taken f (state n t.lines)) (sym a.line) in (
          (taken f t).1,
          ap (λ z. Ok (z, (taken f t).1)) (ap (λ (q : Option X × State). q.0) same ∙ read.0 ∙ (ok_value e).0),
          subst (λ z. Agree end z (taken f t).1) is (subst (λ (q : Option X × State). Agree end (taken f s).1 q.1) (sym same) read.1),
        );
  }

  -- ---- all lines of a kind

  abbrev took : ℕ → List ℕ → List (List ℕ) → Option X → List X × State
  took n l ls (Some x) = (x ∷ (many_from f (n + 1) ls).0, (many_from f (n + 1) ls).1)
  took n l ls None = ([], state n (l ∷ ls))

  many_cons : (n : ℕ) (l : List ℕ) (ls : List (List ℕ)) (o : Option X) → f l ≡ o → many_from f n (l ∷ ls) ≡ took n l ls o
  many_cons n l ls (Some x) e = ap (λ (o : Option X). elim o as (λ _. List X × State) [ Some y ↦ (y ∷ (many_from f (n + 1) ls).0, (many_from f (n + 1) ls).1) | None ↦ ([], state n (l ∷ ls)) ]) e
  many_cons n l ls None e = ap (λ (o : Option X). elim o as (λ _. List X × State) [ Some y ↦ (y ∷ (many_from f (n + 1) ls).0, (many_from f (n + 1) ls).1) | None ↦ ([], state n (l ∷ ls)) ]) e

  many_goes_on : (n : ℕ) (ls : List (List ℕ)) → n ≤ (many_from f n ls).1.line
  many_goes_on n [] = omega arith
  many_goes_on n (l ∷ ls) = at (f l) refl (many_goes_on (n + 1) ls)
    where
      at : (o : Option X) → f l ≡ o → n + 1 ≤ (many_from f (n + 1) ls).1.line → n ≤ (many_from f n (l ∷ ls)).1.line
      at (Some x) is later = subst (λ (p : List X × State). n ≤ p.1.line) (sym (many_cons n l ls (Some x) is)) (omega (arith, later))
      at None is later = subst (λ (p : List X × State). n ≤ p.1.line) (sym (many_cons n l ls None is)) (omega arith)

  -- the same lines are taken, and what is left agrees
  abbrev SameTaken : ℕ → List X × State → List X × State → Type 0
  SameTaken end p q = (q.0 ≡ p.0) × Agree end p.1 q.1

  many_reads : (end n : ℕ) (ls ms : List (List ℕ)) → take (end - n) ls ≡ take (end - n) ms → (many_from f n ls).1.line < end → SameTaken end (many_from f n ls) (many_from f n ms)
  many_reads end n [] ms a below =
      let some = visible end n below in
      let none : ms ≡ [] = nothing_more some.0 ms (subst (λ k. take k [] ≡ take k ms) some.1 a) in
      subst (λ z. SameTaken end (many_from f n []) (many_from f n z)) (sym none) (refl, record { line = refl; lines = refl })
  many_reads end n (l ∷ ls) ms a below = at (λ ns. many_reads end (n + 1) ls ns) (f l) refl
    where
      start : n < end
      start = let from = many_goes_on n (l ∷ ls) in omega (arith, from, below)

      front : (k : ℕ) × (end - n ≡ suc k) × ((rest : List (List ℕ)) × (ms ≡ l ∷ rest) × (take k ls ≡ take k rest))
      front = let some = visible end n start in (some.0, some.1, first_same some.0 l ls ms (subst (λ k. take k (l ∷ ls) ≡ take k ms) some.1 a))

      at : ((ns : List (List ℕ)) → take (end - (n + 1)) ls ≡ take (end - (n + 1)) ns → (many_from f (n + 1) ls).1.line < end → SameTaken end (many_from f (n + 1) ls) (many_from f (n + 1) ns))
          → (o : Option X) → f l ≡ o → SameTaken end (many_from f n (l ∷ ls)) (many_from f n ms)
      at later (Some x) is =
          let p = front in
          let left : end - (n + 1) ≡ p.0 = omega (arith, p.1) in
          let end_of : (many_from f (n + 1) ls).1.line < end = subst (λ (q : List X × State). q.1.line < end) (many_cons n l ls (Some x) is) below in
          let rest = later p.2.0 (subst (λ k. take k ls ≡ take k p.2.0) (sym left) p.2.2) end_of in
          subst (λ z. SameTaken end (many_from f n (l ∷ ls)) (many_from f n z)) (sym p.2.1)
          (subst (λ q. SameTaken end q (many_from f n (l ∷ p.2.0))) (sym (many_cons n l ls (Some x) is))
          (subst (λ q. SameTaken end (took n l ls (Some x)) q) (sym (many_cons n l p.2.0 (Some x) is))
          (ap (λ xs. x ∷ xs) rest.0, rest.1)))
      at later None is =
          let p = front in
          subst (λ z. SameTaken end (many_from f n (l ∷ ls)) (many_from f n z)) (sym p.2.1)
          (subst (λ q. SameTaken end q (many_from f n (l ∷ p.2.0))) (sym (many_cons n l ls None is))
          (subst (λ q. SameTaken end (took n l ls None) q) (sym (many_cons n l p.2.0 None is))
          (refl, record { line = refl; lines = a ∙ ap (take (end - n)) p.2.1 })))

  pub many_local : Local (λ s. Ok (many f s))
  many_local = record {
    fails_on = λ s m e. not_ok e;
    goes_on = λ s s' xs e. subst (λ (z : State). s.line ≤ z.line) (ok_value e).1 (many_goes_on s.line s.lines);
    fails = λ end s t m a e below. not_ok e;
    reads = λ end s t s' xs a e below.
        let is : (many f s).1 ≡ s' = (ok_value e).1 in
        let read = many_reads end s.line s.lines t.lines a.lines (subst (λ (z : State). z.line < end) (sym is) below) in
        let from : many f t ≡ many_from f s.line t.lines = ap (λ n. many_from f n t.lines) (sym a.line) in (
          (many f t).1,
          ap (λ z. Ok (z, (many f t).1)) (ap (λ (q : List X × State). q.0) from ∙ read.0 ∙ (ok_value e).0),
          subst (λ z. Agree end z (many f t).1) is (subst (λ (q : List X × State). Agree end (many f s).1 q.1) (sym from) read.1),
        );
  }

-- so many parts
pub numbered_local : {X : Type 0} (k n : ℕ) (g : ℕ → Reader X) → ((i : ℕ) → Local (g i)) → Local (numbered k n g)
numbered_local zero n g all = pure_local []
numbered_local (suc k) n g all =
    both_local (g n) (λ x s. numbered k (n + 1) g s >>= (λ xs. Ok (x ∷ xs.0, xs.1))) (all n)
    (λ x. both_local (numbered k (n + 1) g) (λ xs s. Ok (x ∷ xs, s)) (numbered_local k (n + 1) g all) (λ xs. pure_local (x ∷ xs)))

-- nothing is left
pub finished_local : {X : Type 0} (x : X) → Local (λ s. if is_nil s.lines then Ok (x, s) else Err s.line)
finished_local {X} x = record {
  fails_on = λ s m e. fails_on s.line s.lines m e;
  goes_on = λ s s' y e. goes_on s.line s.lines s' y e;
  fails = λ end s t m a e below.
      let same = is_line s.line s.lines m e in
      let some = visible end s.line (omega (arith, same, below)) in
      fails some.0 s.line t.line m s.lines t.lines a.line (subst (λ k. take k s.lines ≡ take k t.lines) some.1 a.lines) e;
  reads = λ end s t s' y a e below.
      let same = is_state s.line s.lines s' y e in
      let line : s.line ≡ s'.line = ap (λ z. z.line) same in
      let some = visible end s.line (omega (arith, line, below)) in
      (t, reads some.0 s.line s.lines t s' y (subst (λ k. take k s.lines ≡ take k t.lines) some.1 a.lines) e, subst (λ z. Agree end z t) same a);
}
  where
    is_line : (n : ℕ) (ls : List (List ℕ)) (m : ℕ) → ◌≡◌ {A = Result (X × State) ℕ} (if is_nil ls then Ok (x, state n ls) else Err n) (Err m) → n ≡ m
    is_line n [] m e = not_ok e
    is_line n (l ∷ ls) m e = err_value e

    is_state : (n : ℕ) (ls : List (List ℕ)) (s' : State) (y : X) → ◌≡◌ {A = Result (X × State) ℕ} (if is_nil ls then Ok (x, state n ls) else Err n) (Ok (y, s')) → state n ls ≡ s'
    is_state n [] s' y e = (ok_value e).1
    is_state n (l ∷ ls) s' y e = not_err e

    fails_on : (n : ℕ) (ls : List (List ℕ)) (m : ℕ) → ◌≡◌ {A = Result (X × State) ℕ} (if is_nil ls then Ok (x, state n ls) else Err n) (Err m) → n ≤ m
    fails_on n ls m e = let same = is_line n ls m e in omega (arith, same)

    goes_on : (n : ℕ) (ls : List (List ℕ)) (s' : State) (y : X) → ◌≡◌ {A = Result (X × State) ℕ} (if is_nil ls then Ok (x, state n ls) else Err n) (Ok (y, s')) → n ≤ s'.line
    goes_on n ls s' y e = let same : n ≡ s'.line = ap (λ z. z.line) (is_state n ls s' y e) in omega (arith, same)

    fails : (k n n' m : ℕ) (ls ms : List (List ℕ)) → n ≡ n' → take (suc k) ls ≡ take (suc k) ms → ◌≡◌ {A = Result (X × State) ℕ} (if is_nil ls then Ok (x, state n ls) else Err n) (Err m)
        → ◌≡◌ {A = Result (X × State) ℕ} (if is_nil ms then Ok (x, state n' ms) else Err n') (Err m)
    fails k n n' m [] ms same a e = not_ok e
    fails k n n' m (l ∷ ls) [] same a e = let wrong : l ∷ take k ls ≡ [] = a in cc
    fails k n n' m (l ∷ ls) (l' ∷ ms) same a e = ap Err (sym same ∙ err_value e)

    reads : (k n : ℕ) (ls : List (List ℕ)) (t s' : State) (y : X) → take (suc k) ls ≡ take (suc k) t.lines → ◌≡◌ {A = Result (X × State) ℕ} (if is_nil ls then Ok (x, state n ls) else Err n) (Ok (y, s'))
        → ◌≡◌ {A = Result (X × State) ℕ} (if is_nil t.lines then Ok (x, t) else Err t.line) (Ok (y, t))
    reads k n [] t s' y a e = ap (λ b. if is_nil b then Ok (x, t) else Err t.line) (nothing_more k t.lines a) ∙ ap (λ z. Ok (z, t)) (ok_value e).0
    reads k n (l ∷ ls) t s' y a e = not_err e
