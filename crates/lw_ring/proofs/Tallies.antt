-- How many of the first values are of one sender.
use Rattle.std.proofs.Common.{◌≡◌, ◌≢◌, ℕ, zero, suc, ◌+◌, ◌<◌, ◌≤◌, List, [], ◌∷◌, map, take, get_or, length, set, ◌-◌, add-one, length-set, get_or-set_same, refl, sym, ap, ◌∙◌, arith}
use mathlib.Core.Logic.{dite}
use native.Mathlib.Decide.{ℕ_discrete}
use Rattle.lw_base.specs.declared.message.Tag.{Tag}
use Rattle.lw_ring.specs.declared.settling.Pair.{Pair}
use Rattle.lw_base.specs.Letters.{sent_by}
use Rattle.lw_ring.proofs.Counts.{sent_by-yes, sent_by-no}

get_or-else : {X : Type 0} (xs : List X) (i k : ℕ) (y d : X) → k ≢ i → get_or (set xs i y) k d ≡ get_or xs k d
get_or-else [] i k y d n = refl
get_or-else (x ∷ xs) zero zero y d n = absurd (n refl)
get_or-else (x ∷ xs) zero (suc k) y d n = refl
get_or-else (x ∷ xs) (suc i) zero y d n = refl
get_or-else (x ∷ xs) (suc i) (suc k) y d n = get_or-else xs i k y d (λ e. n (ap suc e))

get_or-same : {X : Type 0} (xs : List X) (i : ℕ) (d e : X) → i < length xs → get_or xs i d ≡ get_or xs i e
get_or-same [] i d e l = absurd (omega arith)
get_or-same (x ∷ xs) zero d e l = refl
get_or-same (x ∷ xs) (suc i) d e l = get_or-same xs i d e (omega arith)

module _ {T L : Type 0} (letter : T → L) (tag_of : L → Tag) where
  pub tally : ℕ → List T → ℕ
  tally k xs = length (sent_by tag_of k (map letter xs))

  pub tally_is : (k : ℕ) (xs : List T) → length (sent_by tag_of k (map letter xs)) ≡ tally k xs
  unfolding tally
  tally_is k xs = refl

  tally_yes : (k : ℕ) (x : T) (xs : List T) → (tag_of (letter x)).sender ≡ k → tally k (x ∷ xs) ≡ suc (tally k xs)
  unfolding tally
  tally_yes k x xs e = ap length (sent_by-yes tag_of k (letter x) (map letter xs) e)

  tally_no : (k : ℕ) (x : T) (xs : List T) → (tag_of (letter x)).sender ≢ k → tally k (x ∷ xs) ≡ tally k xs
  unfolding tally
  tally_no k x xs n = ap length (sent_by-no tag_of k (letter x) (map letter xs) n)

  pub tally_none : (k : ℕ) → tally k [] ≡ 0
  unfolding tally
  tally_none k = refl

  pub more_yes : (k i : ℕ) (xs : List T) (d : T) → i < length xs → (tag_of (letter (get_or xs i d))).sender ≡ k → tally k (take (suc i) xs) ≡ suc (tally k (take i xs))
  more_yes k i [] d l e = absurd (omega arith)
  more_yes k zero (x ∷ xs) d l e = (let a = tally_yes k x [] e in let b = tally_none k in omega arith)
  more_yes k (suc i) (x ∷ xs) d l e = (let r = more_yes k i xs d (omega arith) e in dite (ℕ_discrete ((tag_of (letter x)).sender) k)
      (λ y. let a = tally_yes k x (take (suc i) xs) y in let b = tally_yes k x (take i xs) y in omega arith)
      (λ n. let a = tally_no k x (take (suc i) xs) n in let b = tally_no k x (take i xs) n in omega arith))

  pub more_no : (k i : ℕ) (xs : List T) (d : T) → i < length xs → (tag_of (letter (get_or xs i d))).sender ≢ k → tally k (take (suc i) xs) ≡ tally k (take i xs)
  more_no k i [] d l e = absurd (omega arith)
  more_no k zero (x ∷ xs) d l e = tally_no k x [] e
  more_no k (suc i) (x ∷ xs) d l e = (let r = more_no k i xs d (omega arith) e in dite (ℕ_discrete ((tag_of (letter x)).sender) k)
      (λ y. let a = tally_yes k x (take (suc i) xs) y in let b = tally_yes k x (take i xs) y in omega arith)
      (λ n. let a = tally_no k x (take (suc i) xs) n in let b = tally_no k x (take i xs) n in omega arith))

  pub tally_take : (k i : ℕ) (xs : List T) → tally k (take i xs) ≤ tally k xs
  tally_take k zero xs = (let a = tally_none k in omega arith)
  tally_take k (suc i) [] = omega arith
  tally_take k (suc i) (x ∷ xs) = (let r = tally_take k i xs in dite (ℕ_discrete ((tag_of (letter x)).sender) k)
      (λ y. let a = tally_yes k x (take i xs) y in let b = tally_yes k x xs y in omega arith)
      (λ n. let a = tally_no k x (take i xs) n in let b = tally_no k x xs n in omega arith))

  pub tally_full : (k i : ℕ) (xs : List T) → length xs ≤ i → tally k (take i xs) ≡ tally k xs
  tally_full k zero [] l = refl
  tally_full k zero (x ∷ xs) l = absurd (omega arith)
  tally_full k (suc i) [] l = refl
  tally_full k (suc i) (x ∷ xs) l = (let r = tally_full k i xs (omega arith) in dite (ℕ_discrete ((tag_of (letter x)).sender) k)
      (λ y. let a = tally_yes k x (take i xs) y in let b = tally_yes k x xs y in omega arith)
      (λ n. let a = tally_no k x (take i xs) n in let b = tally_no k x xs n in omega arith))

  -- the counts less the first i values
  abbrev pub Less : List Pair → List Pair → ℕ → List T → Type 0
  Less counts start i left = (k : ℕ) (d : Pair) → k < length counts → ((get_or counts k d).sent ≡ (get_or start k d).sent) × ((get_or counts k d).run + tally k (take i left) ≡ (get_or start k d).run)

  abbrev pub one_less : Pair → Pair
  one_less p = record { sent = p.sent; run = p.run - 1 }

  pub room : (counts start : List Pair) (s i : ℕ) (left : List T) (d : Pair) (x : T) → Less counts start i left → s < length counts → i < length left → (tag_of (letter (get_or left i x))).sender ≡ s → tally s left ≤ (get_or start s d).run → 1 ≤ (get_or counts s d).run
  room counts start s i left d x less in_range more names enough =
      let a = less s d in_range in let b = a.1 in let c = more_yes s i left x more names in let e = tally_take s (suc i) left in omega arith

  pub step : (counts start : List Pair) (s i : ℕ) (left : List T) (d : Pair) (x : T) → Less counts start i left → s < length counts → i < length left → (tag_of (letter (get_or left i x))).sender ≡ s → 1 ≤ (get_or counts s d).run
      → Less (set counts s (one_less (get_or counts s d))) start (i + 1) left
  step counts start s i left d x less in_range more names positive k e l =
      let new : List Pair = set counts s (one_less (get_or counts s d)) in
      let same_size = length-set counts s (one_less (get_or counts s d)) in
      let inside : k < length counts = omega arith in
      let a = less k e inside in
      let was = a.1 in
      let next = ap (λ n. tally k (take n left)) (add-one i) in
      dite (ℕ_discrete k s)
      (λ here.
      (let b : get_or new k e ≡ one_less (get_or counts s d) = ap (λ j. get_or new j e) here ∙ get_or-set_same counts s (one_less (get_or counts s d)) e in_range in
      let b_sent = ap (λ (p : Pair). p.sent) b in
      let b_run = ap (λ (p : Pair). p.run) b in
      let f : get_or counts s d ≡ get_or counts k e = get_or-same counts s d e in_range ∙ ap (λ j. get_or counts j e) (sym here) in
      let f_sent = ap (λ (p : Pair). p.sent) f in
      let f_run = ap (λ (p : Pair). p.run) f in
      let t = more_yes k i left x more (names ∙ sym here) in
      (b_sent ∙ f_sent ∙ a.0, omega arith)))
      (λ apart.
      (let b : get_or new k e ≡ get_or counts k e = get_or-else counts s k (one_less (get_or counts s d)) e apart in
      let b_run = ap (λ (p : Pair). p.run) b in
      let t = more_no k i left x more (λ y. apart (sym y ∙ names)) in
      (ap (λ (p : Pair). p.sent) b ∙ a.0, omega arith)))
