-- The first difference of two lists of orders, item by item, and as a list of tests.
use Rattle.std.proofs.Common.{◌≡◌, ℕ, zero, suc, ◌+◌, ◌<◌, ◌≤◌, min, nat_lt, Bool, true, false, cond, List, [], ◌∷◌, length, map, drop, get_or, slice_get, Option, Some, None, IfSome, ◌^◌, refl, sym, ap, subst, ◌∙◌, arith}
use Rattle.std.proofs.lemmas.Bool.{false≢true}
use Rattle.std.proofs.lemmas.Bool.Decides.{nat_tests}
use Rattle.lw_base.specs.declared.moves.Order.{Order}
use Rattle.lw_model.specs.Same.{both, is_same_order}
use Rattle.lw_model.specs.Verdict.{least_failing, against}
use Rattle.lw_judge_threads.specs.Firsts.{at_line}
use Rattle.lw_judge_rounds.specs.Differences.{first_difference}

-- ---- Item by item

same_here : (p : ℕ) (plan orders : List Order) (d : Order) → p < length orders → both is_same_order (slice_get plan p) (Some (get_or orders p d)) ≡ true → (n : ℕ)
    → (p < length plan) × (first_difference n (drop p plan) (drop p orders) ≡ first_difference (n + 1) (drop (p + 1) plan) (drop (p + 1) orders))
same_here p plan [] d less is n = absurd (omega (arith, less))
same_here p [] (o ∷ orders) d less is n = absurd (false≢true is)
same_here zero (w ∷ plan) (o ∷ orders) d less is n = (omega arith, ap (λ b. cond b (first_difference (n + 1) plan orders) (Some n)) is)
same_here (suc p) (w ∷ plan) (o ∷ orders) d less is n =
    let h = same_here p plan orders d (omega (arith, less)) is n in
    (omega (arith, h.0), h.1 ∙ ap (λ k. first_difference (n + 1) (drop k (w ∷ plan)) (drop k (o ∷ orders))) next)
  where
    next : suc (p + 1) ≡ suc p + 1
    next = omega arith

-- the next items are the same
pub same_more : (p : ℕ) (plan orders : List Order) (d : Order) → p < length orders → both is_same_order (slice_get plan p) (Some (get_or orders p d)) ≡ true
    → (p < length plan) × (first_difference p (drop p plan) (drop p orders) ≡ first_difference (p + 1) (drop (p + 1) plan) (drop (p + 1) orders))
same_more p plan orders d less is = same_here p plan orders d less is p

-- they aren't
pub unlike_here : (p : ℕ) (plan orders : List Order) (d : Order) → p < length orders → both is_same_order (slice_get plan p) (Some (get_or orders p d)) ≡ false → (n : ℕ)
    → first_difference n (drop p plan) (drop p orders) ≡ Some n
unlike_here p plan [] d less is n = absurd (omega (arith, less))
unlike_here zero [] (o ∷ orders) d less is n = refl
unlike_here (suc p) [] (o ∷ orders) d less is n = nothing_planned (suc p) (o ∷ orders) less n
  where
    nothing_planned : (p : ℕ) (orders : List Order) → p < length orders → (n : ℕ) → first_difference n (drop p []) (drop p orders) ≡ Some n
    nothing_planned p [] less n = absurd (omega (arith, less))
    nothing_planned zero (o ∷ orders) less n = refl
    nothing_planned (suc p) (o ∷ orders) less n = at p (nothing_planned p orders (omega (arith, less)) n)
      where
        at : (p : ℕ) → first_difference n (drop p []) (drop p orders) ≡ Some n → first_difference n [] (drop p orders) ≡ Some n
        at zero h = h
        at (suc p) h = h
unlike_here zero (w ∷ plan) (o ∷ orders) d less is n = ap (λ b. cond b (first_difference (n + 1) plan orders) (Some n)) is
unlike_here (suc p) (w ∷ plan) (o ∷ orders) d less is n = unlike_here p plan orders d (omega (arith, less)) is n

-- behind all orders
pub lacking : (p : ℕ) (plan orders : List Order) → p ≡ length orders → p ≤ length plan → (n : ℕ)
    → first_difference n (drop p plan) (drop p orders) ≡ cond (nat_lt p (length plan)) (Some n) None
lacking zero [] [] is low n = refl
lacking zero (w ∷ plan) [] is low n = ap (λ b. cond b (Some n) None) (sym (more (length plan)))
  where
    more : (k : ℕ) → nat_lt 0 (suc k) ≡ true
    more k = grind (arith, nat_tests)
lacking zero plan (o ∷ orders) is low n = absurd (omega (arith, is))
lacking (suc p) plan [] is low n = absurd (omega (arith, is))
lacking (suc p) [] (o ∷ orders) is low n = absurd (omega (arith, low))
lacking (suc p) (w ∷ plan) (o ∷ orders) is low n = lacking p plan orders (omega (arith, is)) (omega (arith, low)) n ∙ ap (λ b. cond b (Some n) None) more
  where
    more : nat_lt p (length plan) ≡ nat_lt (suc p) (suc (length plan))
    more = grind (arith, nat_tests)

-- it is the place of an order, or the one behind them
pub difference_within : (n : ℕ) (plan orders : List Order) → IfSome (first_difference n plan orders) (λ p. p ≤ n + length orders)
difference_within n [] [] = tt
difference_within n (w ∷ plan) [] = omega arith
difference_within n [] (o ∷ orders) = omega arith
difference_within n (w ∷ plan) (o ∷ orders) = at (is_same_order w o) (first_difference (n + 1) plan orders) (difference_within (n + 1) plan orders)
  where
    at : (b : Bool) (r : Option ℕ) → IfSome r (λ p. p ≤ n + 1 + length orders) → IfSome (cond b r (Some n)) (λ p. p ≤ n + suc (length orders))
    at true None h = tt
    at true (Some p) h = omega (arith, h)
    at false r h = omega arith

-- ---- As tests, where a lack is tested at the line behind the orders

min_low : (a b : ℕ) → a ≤ b → min a b ≡ a
min_low a b h = grind arith

-- a test that fails below all others
first_fails : (base n : ℕ) (r : Option ℕ) → IfSome r (λ p. n ≤ p) → elim (at_line base r) [ None ↦ Some (base + n) | Some m ↦ Some (min (base + n) m) ] ≡ Some (base + n)
first_fails base n None h = refl
first_fails base n (Some p) h = ap Some (min_low (base + n) (base + p) (omega (arith, h)))

difference_from : (n : ℕ) (plan orders : List Order) → IfSome (first_difference n plan orders) (λ p. n ≤ p)
difference_from n [] [] = tt
difference_from n (w ∷ plan) [] = omega arith
difference_from n [] (o ∷ orders) = omega arith
difference_from n (w ∷ plan) (o ∷ orders) = at (is_same_order w o) (first_difference (n + 1) plan orders) (difference_from (n + 1) plan orders)
  where
    at : (b : Bool) (r : Option ℕ) → IfSome r (λ p. n + 1 ≤ p) → IfSome (cond b r (Some n)) (λ p. n ≤ p)
    at true None h = tt
    at true (Some p) h = omega (arith, h)
    at false r h = omega arith

weaker : (n : ℕ) (r : Option ℕ) → IfSome r (λ p. n + 1 ≤ p) → IfSome r (λ p. n ≤ p)
weaker n None h = tt
weaker n (Some p) h = omega (arith, h)

from_place : (base n last line : ℕ) (plan orders : List Order) → last ≡ base + n + length orders → line ≡ base + n
    → least_failing (against is_same_order last line (map (λ o. Some o) plan) orders) ≡ at_line base (first_difference n plan orders)
from_place base n last line [] [] end is = refl
from_place base n last line (w ∷ plan) [] end is = ap Some (omega (arith, end))
from_place base n last line [] (o ∷ orders) end is =
    ap (λ (r : Option ℕ). elim r [ None ↦ Some line | Some m ↦ Some (min line m) ]) (from_place base (n + 1) last (line + 1) [] orders (omega (arith, end)) (omega (arith, is)))
    ∙ ap (λ k. elim (at_line base (first_difference (n + 1) [] orders)) [ None ↦ Some k | Some m ↦ Some (min k m) ]) is
    ∙ first_fails base n (first_difference (n + 1) [] orders) (weaker n (first_difference (n + 1) [] orders) (difference_from (n + 1) [] orders))
from_place base n last line (w ∷ plan) (o ∷ orders) end is =
    ap (λ (r : Option ℕ). cond (is_same_order w o) r (elim r [ None ↦ Some line | Some m ↦ Some (min line m) ]))
    (from_place base (n + 1) last (line + 1) plan orders (omega (arith, end)) (omega (arith, is)))
    ∙ ap (λ k. cond (is_same_order w o) rest (elim rest [ None ↦ Some k | Some m ↦ Some (min k m) ])) is
    ∙ at (is_same_order w o)
  where
    rest : Option ℕ
    rest = at_line base (first_difference (n + 1) plan orders)

    at : (b : Bool) → cond b rest (elim rest [ None ↦ Some (base + n) | Some m ↦ Some (min (base + n) m) ]) ≡ at_line base (cond b (first_difference (n + 1) plan orders) (Some n))
    at true = refl
    at false = first_fails base n (first_difference (n + 1) plan orders) (weaker n (first_difference (n + 1) plan orders) (difference_from (n + 1) plan orders))

-- the first failing line of a round's orders against the plan
pub least_unplanned : (base last : ℕ) (plan orders : List Order) → last ≡ base + length orders
    → least_failing (against is_same_order last base (map (λ o. Some o) plan) orders) ≡ at_line base (first_difference 0 plan orders)
least_unplanned base last plan orders end = from_place base 0 last base plan orders (omega (arith, end)) (omega arith)

-- its line is a number
pub difference_line : (first : ℕ) (plan orders : List Order) (o : Option ℕ) → o ≡ first_difference 0 plan orders → first + length orders < 2 ^ 64 → IfSome o (λ p. first + p < 2 ^ 64)
difference_line first plan orders o is few = subst (λ q. IfSome q (λ p. first + p < 2 ^ 64)) (sym is) (at (first_difference 0 plan orders) (difference_within 0 plan orders))
  where
    at : (q : Option ℕ) → IfSome q (λ p. p ≤ 0 + length orders) → IfSome q (λ p. first + p < 2 ^ 64)
    at None h = tt
    at (Some p) h = omega (arith, h, few)
