-- Reading lines one after the other. A failure is the number of the bad line.
use Rattle.std.specs.Prelude.{ℕ, zero, suc, ◌+◌, ◌≡◌, List, [], ◌∷◌, Option, Some, None, Result, Ok, Err, Vec}
use Rattle.std.specs.declared.alloc.Global.{Global}
use Rattle.lw_report.specs.declared.lines.Stop.{Stop}
use Rattle.lw_report.specs.declared.lines.Stop.TheVariants.{BadLine, NoMemory}

-- the lines that are left, and the number of the first
pub record State : Type 0 where
  pub line : ℕ
  pub lines : List (List ℕ)

infixl 10 ◌>>=◌
abbrev pub ◌>>=◌ : {A B : Type 0} → Result A ℕ → (A → Result B ℕ) → Result B ℕ
(Ok a) >>= f = f a
(Err n) >>= f = Err n

-- the first line, where it is of a kind
abbrev pub taken : {X : Type 0} → (List ℕ → Option X) → State → Option X × State
taken f s = elim s.lines [
  | [] ↦ (None, s)
  | l ∷ ls ↦ elim (f l) [ Some x ↦ (Some x, record { line = s.line + 1; lines = ls }) | None ↦ (None, s) ]
]

-- one line of a kind
abbrev pub one : {X : Type 0} → (List ℕ → Option X) → State → Result (X × State) ℕ
one f s = elim (taken f s).0 [ Some x ↦ Ok (x, (taken f s).1) | None ↦ Err s.line ]

-- all lines of a kind, up to the first that isn't
abbrev pub many_from : {X : Type 0} → (List ℕ → Option X) → ℕ → List (List ℕ) → List X × State
many_from f n [] = ([], record { line = n; lines = [] })
many_from f n (l ∷ ls) = elim (f l) [
  | Some x ↦ (x ∷ (many_from f (n + 1) ls).0, (many_from f (n + 1) ls).1)
  | None ↦ ([], record { line = n; lines = l ∷ ls })
]

abbrev pub many : {X : Type 0} → (List ℕ → Option X) → State → List X × State
many f s = many_from f s.line s.lines

-- so many parts, numbered from n
abbrev pub numbered : {X : Type 0} → ℕ → ℕ → (ℕ → State → Result (X × State) ℕ) → State → Result (List X × State) ℕ
numbered zero n f s = Ok ([], s)
numbered (suc k) n f s = do
  x ← f n s
  xs ← numbered k (n + 1) f x.1
  Ok (x.0 ∷ xs.0, xs.1)

-- what a reader answers, and the state that it leaves, are what is read; want of memory says nothing
abbrev pub Says : {X : Type 0} → Result X Stop → State → Result (X × State) ℕ → Type 0
Says (Ok x) s told = told ≡ Ok (x, s)
Says (Err BadLine) s told = told ≡ Err s.line
Says (Err NoMemory) s told = Unit {0}

-- the same of a vector
abbrev pub SaysList : {X : Type 0} → Result (Vec X Global) Stop → State → Result (List X × State) ℕ → Type 0
SaysList (Ok v) s told = told ≡ Ok (v.items, s)
SaysList (Err BadLine) s told = told ≡ Err s.line
SaysList (Err NoMemory) s told = Unit {0}
