-- The way of a token, by counting: how often each of n threads ran it, and whom each sent it to. `S` has whom its origin
-- sent it to, `D s` whom thread s did, where `n` stands for home.
use Rattle.std.proofs.Common.{◌≡◌, ℕ, zero, suc, ◌+◌, ◌-◌, ◌<◌, ◌≤◌, ◌==◌, nat_le, cond, List, [], ◌∷◌, length, refl, sym, ap, subst, arith, inl, inr}
use Rattle.std.specs.List.{AllByRecursion}
use Rattle.std.proofs.lemmas.Bool.{eq-eqb, ne_eqb, le-leb, lt-leb, cases_eq, cases_lt}

abbrev pub sum_below : (ℕ → ℕ) → ℕ → ℕ
sum_below f zero = 0
sum_below f (suc n) = sum_below f n + f n

-- how many go to u, and how many to u or above
abbrev pub count_at : ℕ → List ℕ → ℕ
count_at u [] = 0
count_at u (x ∷ xs) = cond (x == u) 1 0 + count_at u xs

abbrev pub count_from : ℕ → List ℕ → ℕ
count_from u [] = 0
count_from u (x ∷ xs) = cond (nat_le u x) 1 0 + count_from u xs

-- ---- sums

pub sum_same : (f g : ℕ → ℕ) (n : ℕ) → ((s : ℕ) → s < n → f s ≡ g s) → sum_below f n ≡ sum_below g n
sum_same f g zero h = refl
sum_same f g (suc n) h = omega (arith, sum_same f g n (λ s less. h s (omega (arith, less))), h n (omega arith))

pub sum_both : (f g : ℕ → ℕ) (n : ℕ) → sum_below (λ s. f s + g s) n ≡ sum_below f n + sum_below g n
sum_both f g zero = refl
sum_both f g (suc n) = omega (arith, sum_both f g n)

sum_cut : (f : ℕ → ℕ) (m n : ℕ) → m ≤ n → ((s : ℕ) → m ≤ s → s < n → f s ≡ 0) → sum_below f n ≡ sum_below f m
sum_cut f m zero le h = ap (sum_below f) (zero_is m le)
  where
    zero_is : (m : ℕ) → m ≤ 0 → 0 ≡ m
    zero_is m le = omega (arith, le)
sum_cut f m (suc n) le h = elim (cases_eq m (suc n)) [
  | inl same ↦ ap (sum_below f) (sym same)
  | inr other ↦ omega (arith, sum_cut f m n (omega (arith, le, other)) (λ s a b. h s a (omega (arith, b))), h n (omega (arith, le, other)) (omega arith))
]

sum_within : (f g : ℕ → ℕ) (n : ℕ) → ((s : ℕ) → s < n → f s ≤ g s) → sum_below f n ≤ sum_below g n
sum_within f g zero h = omega arith
sum_within f g (suc n) h = omega (arith, sum_within f g n (λ s less. h s (omega (arith, less))), h n (omega arith))

-- one more at one place is one more in all
sum_more : (f g : ℕ → ℕ) (n k : ℕ) → ((s : ℕ) → s < n → f s ≤ g s) → k < n → f k + 1 ≤ g k → sum_below f n + 1 ≤ sum_below g n
sum_more f g zero k h less more = absurd (omega (arith, less))
sum_more f g (suc n) k h less more = elim (cases_eq k n) [
  | inl same ↦ omega (arith, sum_within f g n (λ s b. h s (omega (arith, b))), subst (λ j. f j + 1 ≤ g j) same more)
  | inr other ↦ omega (arith, sum_more f g n k (λ s b. h s (omega (arith, b))) (omega (arith, less, other)) more, h n (omega arith))
]

-- a sum of something has a part
pub sum_some : (f : ℕ → ℕ) (n : ℕ) → 1 ≤ sum_below f n → (k : ℕ) × (k < n) × (1 ≤ f k)
sum_some f zero h = absurd (omega (arith, h))
sum_some f (suc n) h = elim (cases_eq (f n) 0) [
  | inl none ↦ let rest = sum_some f n (omega (arith, h, none)) in (rest.0, omega (arith, rest.1), rest.2)
  | inr some ↦ (n, omega arith, omega (arith, some))
]

pub sum_has : (f : ℕ → ℕ) (n k : ℕ) → k < n → f k ≤ sum_below f n
sum_has f zero k less = absurd (omega (arith, less))
sum_has f (suc n) k less = elim (cases_eq k n) [
  | inl same ↦ subst (λ j. f j ≤ sum_below f n + f n) (sym same) (omega arith)
  | inr other ↦ omega (arith, sum_has f n k (omega (arith, less, other)))
]

-- ---- counts

from_next : (u : ℕ) (xs : List ℕ) → count_from u xs ≡ count_at u xs + count_from (suc u) xs
from_next u [] = refl
from_next u (x ∷ xs) = at (from_next u xs)
  where
    at : count_from u xs ≡ count_at u xs + count_from (suc u) xs → cond (nat_le u x) 1 0 + count_from u xs ≡ (cond (x == u) 1 0 + count_at u xs) + (cond (nat_le (suc u) x) 1 0 + count_from (suc u) xs)
    at rest = elim (cases_eq x u) [
      | inl same ↦ omega (
        arith,
        rest,
        ap {B = ℕ} (λ b. cond b 1 0) (le-leb u x (omega (arith, same))),
        ap {B = ℕ} (λ b. cond b 1 0) (eq-eqb x u same),
        ap {B = ℕ} (λ b. cond b 1 0) (lt-leb (suc u) x (omega (arith, same))),
      )
      | inr other ↦ elim (cases_lt x u) [
        | inl below ↦ omega (
          arith,
          rest,
          ap {B = ℕ} (λ b. cond b 1 0) (lt-leb u x below),
          ap {B = ℕ} (λ b. cond b 1 0) (ne_eqb x u other),
          ap {B = ℕ} (λ b. cond b 1 0) (lt-leb (suc u) x (omega (arith, below))),
        )
        | inr above ↦ omega (
          arith,
          rest,
          ap {B = ℕ} (λ b. cond b 1 0) (le-leb u x above),
          ap {B = ℕ} (λ b. cond b 1 0) (ne_eqb x u other),
          ap {B = ℕ} (λ b. cond b 1 0) (le-leb (suc u) x (omega (arith, above, other))),
        )
      ]
    ]

all_from : (u : ℕ) (xs : List ℕ) → AllByRecursion (λ x. u ≤ x) xs → count_from u xs ≡ length xs
all_from u [] h = refl
all_from u (x ∷ xs) h = omega (arith, ap {B = ℕ} (λ b. cond b 1 0) (le-leb u x h.0), all_from u xs h.1)

none_at : (u : ℕ) (xs : List ℕ) → AllByRecursion (λ x. u < x) xs → count_at u xs ≡ 0
none_at u [] h = refl
none_at u (x ∷ xs) h = omega (arith, ap {B = ℕ} (λ b. cond b 1 0) (ne_eqb x u (λ e. omega (arith, e, h.0))), none_at u xs h.1)

from_zero : (xs : List ℕ) → count_from 0 xs ≡ length xs
from_zero [] = refl
from_zero (x ∷ xs) = omega (arith, ap {B = ℕ} (λ b. cond b 1 0) (le-leb 0 x (omega arith)), from_zero xs)

at_within : (u : ℕ) (xs : List ℕ) → count_at u xs ≤ count_from u xs
at_within u xs = omega (arith, from_next u xs)

all_above : (u v : ℕ) (xs : List ℕ) → u ≤ v → AllByRecursion (λ x. v < x) xs → AllByRecursion (λ x. u < x) xs
all_above u v [] le h = tt
all_above u v (x ∷ xs) le h = (omega (arith, le, h.0), all_above u v xs le h.1)

all_at_least : (v : ℕ) (xs : List ℕ) → AllByRecursion (λ x. v < x) xs → AllByRecursion (λ x. suc v ≤ x) xs
all_at_least v [] h = tt
all_at_least v (x ∷ xs) h = (h.0, all_at_least v xs h.1)

pub count_some : (u : ℕ) (xs : List ℕ) → 1 ≤ count_at u xs → 1 ≤ length xs
count_some u [] h = absurd (omega (arith, h))
count_some u (x ∷ xs) h = omega arith

module _ (n : ℕ) (c : ℕ → ℕ) (S D : ℕ → List ℕ)
    (few : (s : ℕ) → s < n → length (D s) ≤ c s)
    (up : (s : ℕ) → s < n → AllByRecursion (λ u. s < u) (D s))
    (came : (u : ℕ) → u < n → c u ≡ sum_below (λ s. count_at u (S s)) n + sum_below (λ s. count_at u (D s)) n) where
  -- who ran it has it from the start
  pub ran_started : (m u : ℕ) → u < m → u < n → 1 ≤ c u → 1 ≤ sum_below (λ s. length (S s)) n
  ran_started zero u below less some = absurd (omega (arith, below))
  ran_started (suc m) u below less some = elim (cases_eq (sum_below (λ s. count_at u (S s)) n) 0) [
    | inl none ↦
        let by = sum_some (λ s. count_at u (D s)) n (omega (arith, some, came u less, none)) in
        let sent = count_some u (D by.0) by.2 in
        let before = first_above by.0 u (D by.0) (up by.0 by.1) by.2 in
        ran_started m by.0 (omega (arith, before, below)) by.1 (omega (arith, sent, few by.0 by.1))
    | inr some' ↦
        let by = sum_some (λ s. count_at u (S s)) n (omega (arith, some')) in
        omega (arith, count_some u (S by.0) by.2, sum_has (λ s. length (S s)) n by.0 by.1)
  ]
    where
      first_above : (s u : ℕ) (xs : List ℕ) → AllByRecursion (λ x. s < x) xs → 1 ≤ count_at u xs → s < u
      first_above s u xs h one = elim (cases_lt s u) [ inl less ↦ less | inr le ↦ absurd (omega (arith, one, none_at u xs (all_above u s xs le h))) ]

  module _ (start : sum_below (λ s. length (S s)) n ≤ 1) (home : 1 ≤ sum_below (λ s. count_at n (S s)) n + sum_below (λ s. count_at n (D s)) n) where
    -- how many are under way across u
    crossing : ℕ → ℕ
    crossing u = sum_below (λ s. count_from u (S s)) n + sum_below (λ s. count_from u (D s)) u

    -- thread u takes what is for it and sends on what it does
    crosses : (u : ℕ) → u < n → crossing (suc u) + c u ≡ crossing u + length (D u)
    unfolding crossing
    crosses u less = omega (
      arith,
      came u less,
      sum_cut (λ s. count_at u (D s)) u n (omega (arith, less)) (λ s a b. none_at u (D s) (all_above u s (D s) a (up s b))),
      sum_same (λ s. count_from u (S s)) (λ s. count_at u (S s) + count_from (suc u) (S s)) n (λ s b. from_next u (S s)),
      sum_both (λ s. count_at u (S s)) (λ s. count_from (suc u) (S s)) n,
      sum_same (λ s. count_from u (D s)) (λ s. count_at u (D s) + count_from (suc u) (D s)) u (λ s b. from_next u (D s)),
      sum_both (λ s. count_at u (D s)) (λ s. count_from (suc u) (D s)) u,
      all_from (suc u) (D u) (all_at_least u (D u) (up u less)),
    )

    at_most : (u : ℕ) → u ≤ n → crossing u ≤ 1
    unfolding crossing
    at_most zero le = omega (arith, start, sum_same (λ s. count_from 0 (S s)) (λ s. length (S s)) n (λ s b. from_zero (S s)))
    at_most (suc u) le = omega (arith, at_most u (omega (arith, le)), crosses u le, few u le)

    at_end : 1 ≤ crossing n
    unfolding crossing
    at_end = omega (arith, home, sum_within (λ s. count_at n (S s)) (λ s. count_from n (S s)) n (λ s b. at_within n (S s)), sum_within (λ s. count_at n (D s)) (λ s. count_from n (D s)) n (λ s b. at_within n (D s)))

    at_least : (k u : ℕ) → u + k ≡ n → 1 ≤ crossing u
    at_least zero u e = subst (λ m. 1 ≤ crossing m) (omega (arith, e)) at_end
    at_least (suc k) u e = omega (arith, at_least k (suc u) (omega (arith, e)), crosses u (omega (arith, e)), few u (omega (arith, e)))

    one_crosses : (u : ℕ) → u ≤ n → crossing u ≡ 1
    one_crosses u le = omega (arith, at_most u le, at_least (n - u) u (omega (arith, le)))

    -- each run sends it on, and a thread runs it once at most
    pub sends_on : (u : ℕ) → u < n → length (D u) ≡ c u
    sends_on u less = omega (arith, one_crosses u (omega (arith, less)), one_crosses (suc u) less, crosses u less)

    pub once : (u : ℕ) → u < n → c u ≤ 1
    unfolding crossing
    once u less = omega (
      arith,
      one_crosses u (omega (arith, less)),
      came u less,
      sum_cut (λ s. count_at u (D s)) u n (omega (arith, less)) (λ s a b. none_at u (D s) (all_above u s (D s) a (up s b))),
      sum_within (λ s. count_at u (S s)) (λ s. count_from u (S s)) n (λ s b. at_within u (S s)),
      sum_within (λ s. count_at u (D s)) (λ s. count_from u (D s)) u (λ s b. at_within u (D s)),
    )

    pub started : sum_below (λ s. length (S s)) n ≡ 1
    unfolding crossing
    started = omega (arith, one_crosses 0 (omega arith), sum_same (λ s. count_from 0 (S s)) (λ s. length (S s)) n (λ s b. from_zero (S s)))

    -- past whom it is sent, that thread doesn't run it
    pub passed : (s v : ℕ) → s < v → v < n → count_at v (D s) ≡ 0 → 1 ≤ count_from v (D s) → c v ≡ 0
    unfolding crossing
    passed s v above less none some = omega (
      arith,
      one_crosses v (omega (arith, less)),
      came v less,
      sum_cut (λ k. count_at v (D k)) v n (omega (arith, less)) (λ k a b. none_at v (D k) (all_above v k (D k) a (up k b))),
      sum_within (λ k. count_at v (S k)) (λ k. count_from v (S k)) n (λ k b. at_within v (S k)),
      sum_more (λ k. count_at v (D k)) (λ k. count_from v (D k)) v s (λ k b. at_within v (D k)) above (omega (arith, none, some)),
    )

    pub passed_first : (s v : ℕ) → s < n → v < n → count_at v (S s) ≡ 0 → 1 ≤ count_from v (S s) → c v ≡ 0
    unfolding crossing
    passed_first s v there less none some = omega (
      arith,
      one_crosses v (omega (arith, less)),
      came v less,
      sum_cut (λ k. count_at v (D k)) v n (omega (arith, less)) (λ k a b. none_at v (D k) (all_above v k (D k) a (up k b))),
      sum_more (λ k. count_at v (S k)) (λ k. count_from v (S k)) n s (λ k b. at_within v (S k)) there (omega (arith, none, some)),
      sum_within (λ k. count_at v (D k)) (λ k. count_from v (D k)) v (λ k b. at_within v (D k)),
    )

    -- whom it isn't sent past, that thread runs it
    pub runs_it : (v : ℕ) → v < n → ((s : ℕ) → s < n → count_from v (S s) ≡ count_at v (S s)) → ((s : ℕ) → s < v → count_from v (D s) ≡ count_at v (D s)) → c v ≡ 1
    unfolding crossing
    runs_it v less first then = omega (
      arith,
      one_crosses v (omega (arith, less)),
      came v less,
      sum_cut (λ k. count_at v (D k)) v n (omega (arith, less)) (λ k a b. none_at v (D k) (all_above v k (D k) a (up k b))),
      sum_same (λ s. count_from v (S s)) (λ s. count_at v (S s)) n first,
      sum_same (λ s. count_from v (D s)) (λ s. count_at v (D s)) v then,
    )
