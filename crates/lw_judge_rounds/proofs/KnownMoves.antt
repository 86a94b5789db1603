-- The moves that are known, order by order and round by round.
use Rattle.std.proofs.Common.{◌≡◌, ℕ, ◌+◌, ◌<◌, ◌==◌, Bool, true, false, ◌&&◌, ◌||◌, List, [], ◌∷◌, length, take, get_or, refl, sym, ap, ap₂, ◌∙◌}
use Rattle.std.specs.List.{list_any}
use Rattle.std.proofs.Math.Bool.{or-false}
use Rattle.std.proofs.lemmas.Bool.{and_parts, and_from, eqb-true, eq-eqb, or_right}
use Rattle.std.proofs.lemmas.List.{take_more}
use Rattle.std.proofs.lemmas.List.Folds.{list_any-append}
use Rattle.lw_base.specs.declared.moves.Order.{Order}
use Rattle.lw_base.specs.declared.moves.Round.{Round}
use Rattle.lw_judge_rounds.specs.declared.orders.Move.{Move}
use Rattle.lw_judge_rounds.specs.OrdersOf.{is_in_round, is_move}

-- one of these orders of a round of this number is the move
abbrev pub of_orders : Move → ℕ → List Order → Bool
of_orders m number orders = number == m.round && list_any (λ o. o.thread == m.thread && o.to == m.to) orders

-- a move by its parts
pub is_move-same : (m : Move) → is_move m m ≡ true
unfolding is_move
is_move-same m = and_from (m.round == m.round) (m.thread == m.thread && m.to == m.to) (eq-eqb m.round m.round refl)
    (and_from (m.thread == m.thread) (m.to == m.to) (eq-eqb m.thread m.thread refl) (eq-eqb m.to m.to refl))

pub is_move-true : (v w : Move) → is_move v w ≡ true → v ≡ w
unfolding is_move
is_move-true v w e =
    let h = and_parts (v.round == w.round) (v.thread == w.thread && v.to == w.to) e in
    let g = and_parts (v.thread == w.thread) (v.to == w.to) h.1 in
    ap₂ (λ a b. move_of a b v.to) (eqb-true v.round w.round h.0) (eqb-true v.thread w.thread g.0) ∙ ap (move_of w.round w.thread) (eqb-true v.to w.to g.1)
  where
    move_of : ℕ → ℕ → ℕ → Move
    move_of round thread to = record { round = round; thread = thread; to = to }

pub is_move-parts : (m v : Move) → is_move m v ≡ (m.round == v.round && (m.thread == v.thread && m.to == v.to))
unfolding is_move
is_move-parts m v = refl

-- ---- one order more

-- what is known with one move more
pub known_more : (v : Move) (f g : Move → Bool) → g v ≡ true → ((w : Move) → is_move v w ≡ false → g w ≡ f w) → (m : Move) → g m ≡ (f m || is_move v m)
known_more v f g here others m = at (is_move v m) refl
  where
    at : (b : Bool) → is_move v m ≡ b → g m ≡ (f m || b)
    at true e = ap g (sym (is_move-true v m e)) ∙ here ∙ sym (or_right (f m) true refl)
    at false e = others m e ∙ sym (or-false (f m))

-- the distribution that is needed below
spread : (a b c d : Bool) → ((a || (b && c)) || (b && d)) ≡ (a || (b && (c || (d || false))))
spread true b c d = refl
spread false true true d = refl
spread false true false true = refl
spread false true false false = refl
spread false false c d = refl

pub order_more : (m v : Move) (before now : Bool) (number : ℕ) (orders : List Order) (i : ℕ) (d : Order) (first : Bool) → i < length orders
    → v ≡ record { round = number; thread = (get_or orders i d).thread; to = (get_or orders i d).to }
    → before ≡ (first || of_orders m number (take i orders)) → now ≡ (before || is_move v m) → now ≡ (first || of_orders m number (take (i + 1) orders))
order_more m v before now number orders i d first less is was more =
    more ∙ ap₂ (λ b w. b || is_move w m) was is
    ∙ ap (λ b. (first || of_orders m number (take i orders)) || b) (is_move-parts (record { round = number; thread = o.thread; to = o.to }) m)
    ∙ spread first (number == m.round) (list_any same (take i orders)) (o.thread == m.thread && o.to == m.to)
    ∙ ap (λ b. first || (number == m.round && b)) (sym (ap (list_any same) (take_more orders i d less) ∙ list_any-append same (take i orders) (o ∷ [])))
  where
    o : Order
    o = get_or orders i d

    same : Order → Bool
    same x = x.thread == m.thread && x.to == m.to

-- no order of a round
pub of_none : (m : Move) (number : ℕ) (first : Bool) → first ≡ (first || of_orders m number [])
of_none m number first = at (number == m.round) first
  where
    at : (b a : Bool) → a ≡ (a || (b && false))
    at b true = refl
    at true false = refl
    at false false = refl

-- ---- one round more

pub round_more : (m : Move) (rounds : List Round) (i : ℕ) (d : Round) (before now : Bool) → i < length rounds → before ≡ list_any (is_in_round m) (take i rounds)
    → now ≡ (before || is_in_round m (get_or rounds i d)) → now ≡ list_any (is_in_round m) (take (i + 1) rounds)
round_more m rounds i d before now less was more =
    more ∙ ap (λ b. b || is_in_round m (get_or rounds i d)) was
    ∙ ap (λ b. list_any (is_in_round m) (take i rounds) || b) (sym (or-false (is_in_round m (get_or rounds i d))))
    ∙ sym (ap (list_any (is_in_round m)) (take_more rounds i d less) ∙ list_any-append (is_in_round m) (take i rounds) (get_or rounds i d ∷ []))
