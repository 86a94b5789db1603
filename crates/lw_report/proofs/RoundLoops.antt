-- Rounds read one after the other: a round takes lines, so as many rounds as lines are all of them.
use Rattle.std.proofs.Common.{◌≡◌, ℕ, zero, suc, ◌+◌, ◌≤◌, List, [], ◌∷◌, ◌++◌, length, Option, Some, None, Result, Ok, Err, append_assoc, append-nil, refl, sym, ap, ◌∙◌, arith}
use Rattle.lw_base.specs.declared.moves.Round.{Round}
use Rattle.lw_base.specs.declared.moves.Row.{Row}
use Rattle.lw_base.specs.declared.moves.Order.{Order}
use Rattle.lw_report_lines.specs.declared.move_lines.RoundHead.{RoundHead}
use Rattle.lw_report_lines.specs.MoveLines.{round_in, row_in, order_in}
use Rattle.lw_report.specs.Machine.{State, taken, one, many, many_from}
use Rattle.lw_report.specs.Rounds.{round_of, rounds_up_to, rounds_at}
use Rattle.lw_report.proofs.Reading.{state, behind}

-- ---- one line, and all lines of a kind

module _ {X : Type 0} (f : List ℕ → Option X) where
  -- a line that was taken is one line of the kind
  pub taken_one : (s t : State) (x : X) → (Some x, t) ≡ taken f s → one f s ≡ Ok (x, t)
  taken_one s t x e = ap (λ (p : Option X × State). elim p.0 as (λ _. Result (X × State) ℕ) [ Some y ↦ Ok (y, p.1) | None ↦ Err s.line ]) (sym e)

  pub taken_shorter : (s t : State) (x : X) → (Some x, t) ≡ taken f s → length s.lines ≡ suc (length t.lines)
  taken_shorter s t x e = at s.lines e
    where
      at : (ls : List (List ℕ)) → (Some x, t) ≡ taken f (state s.line ls) → length ls ≡ suc (length t.lines)
      at [] e = let wrong : Some x ≡ None = ap (λ (p : Option X × State). p.0) e in cc
      at (l ∷ ls) e = by (f l) e
        where
          by : (o : Option X) → (Some x, t) ≡ elim o as (λ _. Option X × State) [ Some y ↦ (Some y, state (s.line + 1) ls) | None ↦ (None, state s.line (l ∷ ls)) ] → suc (length ls) ≡ suc (length t.lines)
          by None e = let wrong : Some x ≡ None = ap (λ (p : Option X × State). p.0) e in cc
          by (Some y) e = ap (λ (p : Option X × State). suc (length p.1.lines)) (sym e)

  -- where none was taken nothing moved
  pub taken_none : (s t : State) → (None, t) ≡ taken f s → s ≡ t
  taken_none s t e = at s.lines e
    where
      at : (ls : List (List ℕ)) → (None, t) ≡ taken f (state s.line ls) → state s.line ls ≡ t
      at [] e = ap (λ (p : Option X × State). p.1) (sym e)
      at (l ∷ ls) e = by (f l) e
        where
          by : (o : Option X) → (None, t) ≡ elim o as (λ _. Option X × State) [ Some y ↦ (Some y, state (s.line + 1) ls) | None ↦ (None, state s.line (l ∷ ls)) ] → state s.line (l ∷ ls) ≡ t
          by None e = ap (λ (p : Option X × State). p.1) (sym e)
          by (Some y) e = let wrong : None ≡ Some y = ap (λ (p : Option X × State). p.0) e in cc

  many_from_shorter : (n : ℕ) (ls : List (List ℕ)) → length (many_from f n ls).1.lines ≤ length ls
  many_from_shorter n [] = omega arith
  many_from_shorter n (l ∷ ls) = at (f l) (many_from_shorter (n + 1) ls)
    where
      at : (o : Option X) → length (many_from f (n + 1) ls).1.lines ≤ length ls
          → length (elim o as (λ _. List X × State) [ Some x ↦ (x ∷ (many_from f (n + 1) ls).0, (many_from f (n + 1) ls).1) | None ↦ ([], state n (l ∷ ls)) ]).1.lines ≤ suc (length ls)
      at None h = omega arith
      at (Some x) h = omega (arith, h)

  pub many_shorter : (s : State) → length (many f s).1.lines ≤ length s.lines
  many_shorter s = many_from_shorter s.line s.lines

-- ---- rounds

pub round_shorter : (head : RoundHead) (s : State) → length (round_of head s).1.lines ≤ length s.lines
round_shorter head s =
    let rows = many_shorter row_in s in
    let orders = many_shorter order_in (many row_in s).1 in
    omega (arith, rows, orders)

-- what a round's line and the rounds behind it make
abbrev pub step : ℕ → State → Option RoundHead × State → List Round × State
step k s p = elim p.0 as (λ _. List Round × State) [
  | None ↦ ([], s)
  | Some head ↦ ((round_of head p.1).0 ∷ (rounds_up_to k (round_of head p.1).1).0, (rounds_up_to k (round_of head p.1).1).1)
]

-- without lines there is no round
none_left : (m n : ℕ) (ls : List (List ℕ)) → length ls ≤ 0 → rounds_up_to m (state n ls) ≡ ([], state n ls)
none_left zero n ls h = refl
none_left (suc m) n [] h = refl
none_left (suc m) n (l ∷ ls) h = absurd (omega arith)

-- so it is all one how many more than lines may be read
pub rounds_same : (k m : ℕ) (s : State) → length s.lines ≤ k → length s.lines ≤ m → rounds_up_to k s ≡ rounds_up_to m s
rounds_same zero m s a b = sym (none_left m s.line s.lines a)
rounds_same (suc k) zero s a b = none_left (suc k) s.line s.lines b
rounds_same (suc k) (suc m) s a b = at (λ u. rounds_same k m u) (taken round_in s).0 (taken round_in s).1 refl
  where
    at : ((u : State) → length u.lines ≤ k → length u.lines ≤ m → rounds_up_to k u ≡ rounds_up_to m u) → (o : Option RoundHead) (t : State) → (o, t) ≡ taken round_in s → step k s (o, t) ≡ step m s (o, t)
    at same None t e = refl
    at same (Some head) t e =
        let first = taken_shorter round_in s t head e in
        let under = round_shorter head t in
        ap (λ (p : List Round × State). ((round_of head t).0 ∷ p.0, p.1)) (same (round_of head t).1 (omega (arith, first, under, a)) (omega (arith, first, under, b)))

-- one round more in the loop
pub rounds_more : (s t u : State) (head : RoundHead) (x : Round) (xs : List Round) → (Some head, t) ≡ taken round_in s → (x, u) ≡ round_of head t
    → behind xs (rounds_at s) ≡ behind (xs ++ x ∷ []) (rounds_at u)
rounds_more s t u head x xs e is =
    let under = round_shorter head t in
    ap (λ k. behind xs (rounds_up_to k s)) (taken_shorter round_in s t head e)
    ∙ ap (λ (p : Option RoundHead × State). behind xs (step (length t.lines) s p)) (sym e)
    ∙ ap (λ (p : List Round × State). behind xs ((round_of head t).0 ∷ p.0, p.1)) (rounds_same (length t.lines) (length (round_of head t).1.lines) (round_of head t).1 under (omega arith))
    ∙ ap (λ (p : Round × State). behind xs (p.0 ∷ (rounds_at p.1).0, (rounds_at p.1).1)) (sym is)
    ∙ ap (λ q. (q, (rounds_at u).1)) (sym (append_assoc xs (x ∷ []) (rounds_at u).0))

-- no round more
pub rounds_end : (s t : State) (xs : List Round) → (None, t) ≡ taken round_in s → behind xs (rounds_at s) ≡ (xs, t)
rounds_end s t xs e =
    ap (behind xs) (at (length s.lines)) ∙ ap (λ q. (q, t)) (append-nil xs)
  where
    at : (k : ℕ) → rounds_up_to k s ≡ ([], t)
    at zero = ap (λ (q : State). ([], q)) (taken_none round_in s t e)
    at (suc k) = ap (step k s) (sym e) ∙ ap (λ (q : State). ([], q)) (taken_none round_in s t e)

-- a round has shorter lines behind it than before it
pub round_goes_on : (s t u : State) (head : RoundHead) (x : Round) → (Some head, t) ≡ taken round_in s → (x, u) ≡ round_of head t → suc (length u.lines) ≤ length s.lines
round_goes_on s t u head x e is =
    let first = taken_shorter round_in s t head e in
    let under = round_shorter head t in
    let last : length u.lines ≡ length (round_of head t).1.lines = ap (λ (p : Round × State). length p.1.lines) is in
    omega (arith, first, under, last)

-- a round of these lists
pub round_of_lines : (head : RoundHead) (s a b : State) (rows : List Row) (orders : List Order) → (rows, a) ≡ many row_in s → (orders, b) ≡ many order_in a
    → (record { number = head.number; time = head.time; rows = rows; orders = orders }, b) ≡ round_of head s
round_of_lines head s a b rows orders e1 e2 =
    ap (λ (p : List Order × State). (record { number = head.number; time = head.time; rows = rows; orders = p.0 }, p.1)) e2
    ∙ ap (λ (p : List Row × State). let q = many order_in p.1 in (record { number = head.number; time = head.time; rows = p.0; orders = q.0 }, q.1)) e1
