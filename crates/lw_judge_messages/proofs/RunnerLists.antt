-- The threads that ran a token, message by message and thread by thread.
use Rattle.std.proofs.Common.{◌≡◌, ◌≢◌, ℕ, ◌+◌, ◌-◌, ◌<◌, ◌==◌, ◌&&◌, ◌||◌, Bool, true, false, cond, filter, List, [], ◌∷◌, ◌++◌, length, take, get_or, slice_get, nat_eq, nat_le, nat_lt, zero, suc, ◌≤◌, Some, None, refl, sym, ap, ap₂, subst, inl, inr, ◌⊎◌, ◌∙◌, arith}
use Rattle.std.specs.Option.{option_eq}
use Rattle.std.specs.List.{range_with_len, AllByRecursion, AllWithin}
use Rattle.std.specs.List.Sorted.{IsNonDecreasingBy, IsPartitionPoint}
use Rattle.std.proofs.lemmas.Bool.{and_parts, and_from, eqb-true, eq-eqb, ne_eqb, false≢true, true≢false, or_right, cases_Bool, cases_eq, le-leb, lt-leb}
use Rattle.std.proofs.lemmas.Bool.Decides.{nat_tests}
use Rattle.std.proofs.Math.Bool.{or-false}
use Rattle.std.proofs.lemmas.List.{take_more, append-nil}
use Rattle.std.proofs.lemmas.List.Folds.{list_any-append}
use Rattle.std.proofs.lemmas.List.Elements.{filter-append}
use Rattle.lw_base.specs.declared.message.Tag.{Tag}
use Rattle.lw_base.specs.declared.message.What.{What}
use Rattle.lw_base.specs.declared.message.What.TheVariants as what
use Rattle.lw_base.proofs.Lists.{some_same, range_push}
use Rattle.lw_model.specs.Sent.{is_same_token}
use Rattle.lw_judge_messages.specs.declared.tokens.Token.{Token}
use Rattle.lw_judge_messages.specs.declared.tokens.Token.TheVariants as token
use Rattle.lw_judge_messages.specs.Tokens.{what_of, token_in, is_run, is_last, with_last}

-- ---- a token and a WHAT

pub what_of-token_in : (v : Token) (m : What) → token_in m ≡ Some v → m ≡ what_of v
what_of-token_in v (what.Visit o k d) e = ap what_of (some_same e)
what_of-token_in v (what.Cast o k) e = ap what_of (some_same e)
what_of-token_in v _ e = cc

pub same_none : (w : Token) (m : What) → token_in m ≡ None → is_same_token (what_of w) m ≡ false
same_none w (what.Visit o k d) e = cc
same_none w (what.Cast o k) e = cc
same_none (token.Visit o k d) _ e = refl
same_none (token.Cast o k) _ e = refl

pub same_itself : (w : Token) → is_same_token (what_of w) (what_of w) ≡ true
same_itself (token.Visit o k d) = and_from (o == o && k == k) (d == d) (and_from (o == o) (k == k) (eq-eqb o o refl) (eq-eqb k k refl)) (eq-eqb d d refl)
same_itself (token.Cast o k) = and_from (o == o) (k == k) (eq-eqb o o refl) (eq-eqb k k refl)

pub same_true : (v w : Token) → is_same_token (what_of v) (what_of w) ≡ true → v ≡ w
same_true (token.Visit o k d) (token.Visit o' k' d') e =
    let h = and_parts (o == o' && k == k') (d == d') e in
    let g = and_parts (o == o') (k == k') h.0 in
    ap₂ (λ a b. token.Visit a b d) (eqb-true o o' g.0) (eqb-true k k' g.1) ∙ ap (token.Visit o' k') (eqb-true d d' h.1)
same_true (token.Visit o k d) (token.Cast o' k') e = absurd (false≢true e)
same_true (token.Cast o k) (token.Visit o' k' d') e = absurd (false≢true e)
same_true (token.Cast o k) (token.Cast o' k') e =
    let h = and_parts (o == o') (k == k') e in
    ap₂ (λ a b. token.Cast a b) (eqb-true o o' h.0) (eqb-true k k' h.1)

pub token_cases : (v w : Token) → (v ≡ w) ⊎ (is_same_token (what_of v) (what_of w) ≡ false)
token_cases v w = elim (cases_Bool (is_same_token (what_of v) (what_of w))) [ inl e ↦ inl (same_true v w e) | inr e ↦ inr e ]

-- ---- a thread put last

abbrev pub AllBelow : ℕ → List ℕ → Type 0
AllBelow t us = AllByRecursion (λ u. u < t) us

is_last-tail : (t u v : ℕ) (us : List ℕ) → is_last t (u ∷ v ∷ us) ≡ is_last t (v ∷ us)
is_last-tail t u v us = ap (λ k. option_eq nat_eq (slice_get (u ∷ v ∷ us) k) (Some t)) first ∙ ap (λ k. option_eq nat_eq (slice_get (v ∷ us) k) (Some t)) (sym second)
  where
    first : suc (suc (length us)) - 1 ≡ suc (length us)
    first = omega arith

    second : suc (length us) - 1 ≡ length us
    second = omega arith

not_last : (t : ℕ) (us : List ℕ) → AllBelow t us → is_last t us ≡ false
not_last t [] h = refl
not_last t (u ∷ []) h = ne_eqb u t (omega (arith, h.0))
not_last t (u ∷ v ∷ us) h = is_last-tail t u v us ∙ not_last t (v ∷ us) h.1

is_last-push : (t : ℕ) (us : List ℕ) → is_last t (us ++ t ∷ []) ≡ true
is_last-push t [] = eq-eqb t t refl
is_last-push t (u ∷ []) = is_last-tail t u t [] ∙ eq-eqb t t refl
is_last-push t (u ∷ v ∷ us) = is_last-tail t u v (us ++ t ∷ []) ∙ is_last-push t (v ∷ us)

pub with_last-below : (t : ℕ) (us : List ℕ) → AllBelow t us → with_last t us ≡ us ++ t ∷ []
with_last-below t us h = ap (λ b. cond b us (us ++ t ∷ [])) (not_last t us h)

pub with_last-push : (t : ℕ) (us : List ℕ) → with_last t (us ++ t ∷ []) ≡ us ++ t ∷ []
with_last-push t us = ap (λ b. cond b (us ++ t ∷ []) ((us ++ t ∷ []) ++ t ∷ [])) (is_last-push t us)

-- ---- one message more

or_false : (a b : Bool) → (a || (b || false)) ≡ (a || b)
or_false true b = refl
or_false false true = refl
or_false false false = refl

is_run-more : (w : Token) (ran : List Tag) (i : ℕ) (d : Tag) → i < length ran → is_run w (take (i + 1) ran) ≡ (is_run w (take i ran) || is_same_token (what_of w) (get_or ran i d).what)
is_run-more w ran i d less =
    ap (is_run w) (take_more ran i d less)
    ∙ list_any-append (λ m. is_same_token (what_of w) m.what) (take i ran) (get_or ran i d ∷ [])
    ∙ or_false (is_run w (take i ran)) (is_same_token (what_of w) (get_or ran i d).what)

module _ (old f : Token → List ℕ) (t : ℕ) (ran : List Tag) (i : ℕ) (d : Tag) (less : i < length ran) (now : (w : Token) → f w ≡ old w ++ cond (is_run w (take i ran)) (t ∷ []) []) where
  -- a message that isn't the token
  another : (w : Token) → is_same_token (what_of w) (get_or ran i d).what ≡ false → f w ≡ old w ++ cond (is_run w (take (i + 1) ran)) (t ∷ []) []
  another w other = now w ∙ ap (λ b. old w ++ cond b (t ∷ []) []) (sym (is_run-more w ran i d less ∙ ap (λ b. is_run w (take i ran) || b) other ∙ or-false (is_run w (take i ran))))

  pub runners-token : (v : Token) → token_in (get_or ran i d).what ≡ Some v → ((w : Token) → AllBelow t (old w)) → (g : Token → List ℕ)
      → g v ≡ with_last t (f v) → ((w : Token) → w ≢ v → g w ≡ f w) → (w : Token) → g w ≡ old w ++ cond (is_run w (take (i + 1) ran)) (t ∷ []) []
  runners-token v is above g here others w = elim (token_cases w v) [
    | inl e ↦ subst (λ q. g q ≡ old q ++ cond (is_run q (take (i + 1) ran)) (t ∷ []) []) (sym e)
        (here ∙ ap (with_last t) (now v) ∙ put (is_run v (take i ran)) ∙ ap (λ b. old v ++ cond b (t ∷ []) []) (sym (is_run-more v ran i d less ∙ or_right (is_run v (take i ran)) (is_same_token (what_of v) (get_or ran i d).what) itself)))
    | inr e ↦ others w (λ same. true≢false (sym (same_itself v) ∙ ap (λ q. is_same_token (what_of q) (what_of v)) (sym same) ∙ e))
        ∙ another w (ap (is_same_token (what_of w)) (what_of-token_in v (get_or ran i d).what is) ∙ e)
  ]
    where
      itself : is_same_token (what_of v) (get_or ran i d).what ≡ true
      itself = ap (is_same_token (what_of v)) (what_of-token_in v (get_or ran i d).what is) ∙ same_itself v

      put : (b : Bool) → with_last t (old v ++ cond b (t ∷ []) []) ≡ old v ++ t ∷ []
      put true = with_last-push t (old v)
      put false = ap (with_last t) (append-nil (old v)) ∙ with_last-below t (old v) (above v)

  pub runners-other : token_in (get_or ran i d).what ≡ None → (w : Token) → f w ≡ old w ++ cond (is_run w (take (i + 1) ran)) (t ∷ []) []
  runners-other is w = another w (same_none w (get_or ran i d).what is)

-- ---- one thread more

below_filter : (p : ℕ → Bool) (m : ℕ) (us : List ℕ) → AllBelow m us → AllBelow m (filter p us)
below_filter p m [] h = tt
below_filter p m (u ∷ us) h = at (p u) (below_filter p m us h.1)
  where
    at : (b : Bool) → AllBelow m (filter p us) → AllBelow m (cond b (u ∷ filter p us) (filter p us))
    at true rest = (h.0, rest)
    at false rest = rest

below_range : (a n m : ℕ) → a + n ≤ m → AllBelow m (range_with_len a n)
below_range a zero m h = tt
below_range a (suc n) m h = (omega (arith, h), below_range (a + 1) n m (omega (arith, h)))

pub below_in_range : (p : ℕ → Bool) (n : ℕ) → AllBelow n (filter p (range_with_len 0 n))
below_in_range p n = below_filter p n (range_with_len 0 n) (below_range 0 n n (omega arith))

-- the threads of a range that pass, with the next one
pub filter-range_push : (p : ℕ → Bool) (n : ℕ) → filter p (range_with_len 0 (n + 1)) ≡ filter p (range_with_len 0 n) ++ cond (p n) (n ∷ []) []
filter-range_push p n = ap (filter p) (range_push 0 n) ∙ filter-append p (range_with_len 0 n) ((0 + n) ∷ []) ∙ ap (λ k. filter p (range_with_len 0 n) ++ cond (p k) (k ∷ []) []) here
  where
    here : 0 + n ≡ n
    here = omega arith

-- ---- the first from a thread on

-- behind the items that don't pass stand only such as do
pub first_kept : (q : ℕ → Bool) (xs : List ℕ) (i : ℕ) → AllWithin (λ x. q x ≡ false) xs 0 i → AllWithin (λ x. q x ≡ true) xs i (length xs) → slice_get xs i ≡ slice_get (filter q xs) 0
first_kept q [] i below above = refl
first_kept q (x ∷ xs) zero below above = ap (λ b. slice_get (cond b (x ∷ filter q xs) (filter q xs)) 0) (sym (above 0 0 (omega arith) (omega arith)))
first_kept q (x ∷ xs) (suc i) below above =
    first_kept q xs i (λ k d low high. below (suc k) d (omega arith) (omega (arith, high))) (λ k d low high. above (suc k) d (omega (arith, low)) (omega (arith, high)))
    ∙ ap (λ b. slice_get (cond b (x ∷ filter q xs) (filter q xs)) 0) (sym (below 0 0 (omega arith) (omega arith)))

-- those behind t, and those from t on
pub first_behind : (t : ℕ) (xs : List ℕ) (i : ℕ) → IsPartitionPoint (λ y. nat_le y t ≡ true) (λ y. nat_le y t ≡ false) xs i → slice_get xs i ≡ slice_get (filter (nat_lt t) xs) 0
first_behind t xs i h = first_kept (nat_lt t) xs i (λ k d low high. below t (get_or xs k d) (h.0 k d low high)) (λ k d low high. above t (get_or xs k d) (h.1 k d low high))
  where
    below : (t y : ℕ) → nat_le y t ≡ true → nat_lt t y ≡ false
    below t y e = grind (arith, nat_tests)

    above : (t y : ℕ) → nat_le y t ≡ false → nat_lt t y ≡ true
    above t y e = grind (arith, nat_tests)

pub first_from : (t : ℕ) (xs : List ℕ) (i : ℕ) → IsPartitionPoint (λ y. nat_lt y t ≡ true) (λ y. nat_lt y t ≡ false) xs i → slice_get xs i ≡ slice_get (filter (nat_le t) xs) 0
first_from t xs i h = first_kept (nat_le t) xs i (λ k d low high. below t (get_or xs k d) (h.0 k d low high)) (λ k d low high. above t (get_or xs k d) (h.1 k d low high))
  where
    below : (t y : ℕ) → nat_lt y t ≡ true → nat_le t y ≡ false
    below t y e = grind (arith, nat_tests)

    above : (t y : ℕ) → nat_lt y t ≡ false → nat_le t y ≡ true
    above t y e = grind (arith, nat_tests)

-- ---- the numbers of a range that pass

abbrev AllFrom : ℕ → List ℕ → Type 0
AllFrom t us = AllByRecursion (λ u. t ≤ u) us

from_range : (p : ℕ → Bool) (t a n : ℕ) → t ≤ a → AllFrom t (filter p (range_with_len a n))
from_range p t a zero h = tt
from_range p t a (suc n) h = at (p a) (from_range p t (a + 1) n (omega (arith, h)))
  where
    at : (b : Bool) → AllFrom t (filter p (range_with_len (a + 1) n)) → AllFrom t (cond b (a ∷ filter p (range_with_len (a + 1) n)) (filter p (range_with_len (a + 1) n)))
    at true rest = (h, rest)
    at false rest = rest

from_at : (t : ℕ) (us : List ℕ) → AllFrom t us → (k d : ℕ) → k < length us → t ≤ get_or us k d
from_at t [] h k d less = absurd (omega (arith, less))
from_at t (u ∷ us) h zero d less = h.0
from_at t (u ∷ us) h (suc k) d less = from_at t us h.1 k d (omega (arith, less))

cons_rises : (u : ℕ) (us : List ℕ) → AllFrom u us → IsNonDecreasingBy (λ x. x) us → IsNonDecreasingBy (λ x. x) (u ∷ us)
cons_rises u us from rising zero zero d low high = omega arith
cons_rises u us from rising zero (suc j) d low high = from_at u us from j d (omega (arith, high))
cons_rises u us from rising (suc i) zero d low high = absurd (omega (arith, low))
cons_rises u us from rising (suc i) (suc j) d low high = rising i j d (omega (arith, low)) (omega (arith, high))

rises : (p : ℕ → Bool) (a n : ℕ) → IsNonDecreasingBy (λ x. x) (filter p (range_with_len a n))
rises p a zero = λ i j d low high. absurd (omega (arith, high))
rises p a (suc n) = at (p a) (from_range p a (a + 1) n (omega arith)) (rises p (a + 1) n)
  where
    at : (b : Bool) → AllFrom a (filter p (range_with_len (a + 1) n)) → IsNonDecreasingBy (λ x. x) (filter p (range_with_len (a + 1) n))
        → IsNonDecreasingBy (λ x. x) (cond b (a ∷ filter p (range_with_len (a + 1) n)) (filter p (range_with_len (a + 1) n)))
    at true from rising = cons_rises a (filter p (range_with_len (a + 1) n)) from rising
    at false from rising = rising

pub rising-filter_range : (p : ℕ → Bool) (n : ℕ) → IsNonDecreasingBy (λ x. x) (filter p (range_with_len 0 n))
rising-filter_range p n = rises p 0 n

-- t stands first
abbrev is_first : ℕ → List ℕ → Bool
is_first t us = option_eq nat_eq (slice_get us 0) (Some t)

none_first : (t : ℕ) (us : List ℕ) → AllFrom (t + 1) us → is_first t (filter (nat_le t) us) ≡ false
none_first t [] h = refl
none_first t (u ∷ us) h = ap (λ b. is_first t (cond b (u ∷ filter (nat_le t) us) (filter (nat_le t) us))) (le-leb t u (omega (arith, h.0))) ∙ ne_eqb u t (omega (arith, h.0))

-- t is the first number from t on, of those of a range that pass, where it passes itself
pub is_first_from : (p : ℕ → Bool) (t a n : ℕ) → a ≤ t → t < a + n → is_first t (filter (nat_le t) (filter p (range_with_len a n))) ≡ p t
is_first_from p t a zero low high = absurd (omega (arith, low, high))
is_first_from p t a (suc n) low high = elim (cases_eq a t) [
  | inl e ↦ subst (λ q. is_first q (filter (nat_le q) (filter p (range_with_len a (suc n)))) ≡ p q) e (at (p a))
  | inr ne ↦ later (p a) (lt-leb t a (omega (arith, low, ne))) ∙ is_first_from p t (a + 1) n (omega (arith, low, ne)) (omega (arith, high))
]
  where
    at : (b : Bool) → is_first a (filter (nat_le a) (cond b (a ∷ filter p (range_with_len (a + 1) n)) (filter p (range_with_len (a + 1) n)))) ≡ b
    at true = ap (λ c. is_first a (cond c (a ∷ filter (nat_le a) (filter p (range_with_len (a + 1) n))) (filter (nat_le a) (filter p (range_with_len (a + 1) n))))) (le-leb a a (omega arith)) ∙ eq-eqb a a refl
    at false = none_first a (filter p (range_with_len (a + 1) n)) (from_range p (a + 1) (a + 1) n (omega arith))

    later : (b : Bool) → nat_le t a ≡ false → is_first t (filter (nat_le t) (cond b (a ∷ filter p (range_with_len (a + 1) n)) (filter p (range_with_len (a + 1) n)))) ≡ is_first t (filter (nat_le t) (filter p (range_with_len (a + 1) n)))
    later true e = ap (λ c. is_first t (cond c (a ∷ filter (nat_le t) (filter p (range_with_len (a + 1) n))) (filter (nat_le t) (filter p (range_with_len (a + 1) n))))) e
    later false e = refl
