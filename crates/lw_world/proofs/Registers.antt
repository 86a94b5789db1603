-- A register keeps its counts.
use Rattle.std.proofs.Common.{◌≡◌, ◌≢◌, ◌≤◌, ◌<◌, inl, inr, ℕ, ◌+◌, ◌-◌, List, [], ◌∷◌, length, refl, sym, ap, ◌∙◌, arith, slice_index, slice_set, slice_index_or, length-append, suc, zero, if◌then◌else◌}
use Rattle.std.proofs.lemmas.List.{get_or-set_other, length-set}
use Rattle.std.proofs.lemmas.Grind.{get_or-set_at}
use Rattle.std.proofs.lemmas.List.Sums.{sum_by-set, sum_by-append}
use Rattle.std.proofs.lemmas.Bool.Decides.{eqb_tells}
use Rattle.lw_world.specs.Register.{IsRegistered, keyed, one_at, tabulate}
use Rattle.lw_world.proofs.Sums.{same_or_not}

pub one_same : (k c : ℕ) → c ≡ k → one_at k c ≡ 1
one_same k c e = elim (eqb_tells c k) [ inl p ↦ ap (λ b. if b then 1 else 0) p.0 | inr p ↦ absurd (p.1 e) ]

pub one_other : (k c : ℕ) → c ≢ k → one_at k c ≡ 0
one_other k c apart = elim (eqb_tells c k) [ inl p ↦ absurd (apart p.1) | inr p ↦ ap (λ b. if b then 1 else 0) p.0 ]

-- a count that grows, or falls, by one at its key
more_at : (counts : List ℕ) (c k : ℕ) → c < length counts → slice_index (slice_set counts c (slice_index counts c + 1)) k ≡ slice_index counts k + one_at k c
more_at counts c k within = elim (same_or_not k c) [
  | inl e ↦
      let here = get_or-set_at counts c k (slice_index counts c + 1) 0 e within in
      let one = one_same k c (sym e) in
      let was : slice_index counts k ≡ slice_index counts c = ap (slice_index counts) e in
      omega (arith, here, one, was)
  | inr apart ↦
      let there = get_or-set_other counts c k (slice_index counts c + 1) 0 apart in
      let none = one_other k c (λ e. apart (sym e)) in
      omega (arith, there, none)
]

fewer_at : (counts : List ℕ) (c k : ℕ) → c < length counts → 0 < slice_index counts c → slice_index (slice_set counts c (slice_index counts c - 1)) k + one_at k c ≡ slice_index counts k
fewer_at counts c k within some = elim (same_or_not k c) [
  | inl e ↦
      let here = get_or-set_at counts c k (slice_index counts c - 1) 0 e within in
      let one = one_same k c (sym e) in
      let was : slice_index counts k ≡ slice_index counts c = ap (slice_index counts) e in
      omega (arith, here, one, was, some)
  | inr apart ↦
      let there = get_or-set_other counts c k (slice_index counts c - 1) 0 apart in
      let none = one_other k c (λ e. apart (sym e)) in
      omega (arith, there, none)
]

one_few : (k c : ℕ) → one_at k c ≤ 1
one_few k c = elim (same_or_not c k) [
  | inl e ↦ let one = one_same k c e in omega (arith, one)
  | inr apart ↦ let none = one_other k c apart in omega (arith, none)
]

pub keyed-cons : {S : Type 0} (key : S → ℕ) (k : ℕ) (s : S) (states : List S) → keyed key k (s ∷ states) ≡ one_at k (key s) + keyed key k states
keyed-cons key k s states =
    let parts = sum_by-append (λ s. one_at k (key s)) (s ∷ []) states in
    let first : keyed key k (s ∷ []) ≡ 0 + one_at k (key s) = refl in
    omega (arith, parts, first)

pub keyed-few : {S : Type 0} (key : S → ℕ) (k : ℕ) (states : List S) → keyed key k states ≤ length states
keyed-few key k [] = omega arith
keyed-few key k (s ∷ states) =
    let rest = keyed-few key k states in
    let one = one_few k (key s) in
    let both = keyed-cons key k s states in
    omega (arith, rest, one, both)

keyed-part : {S : Type 0} (key : S → ℕ) (k : ℕ) (states : List S) (i : ℕ) (d : S) → i < length states → one_at k (key (slice_index_or states i d)) ≤ keyed key k states
keyed-part key k [] i d below = absurd (omega (arith, below))
keyed-part key k (s ∷ states) zero d below =
    let both = keyed-cons key k s states in
    let first : one_at k (key (slice_index_or (s ∷ states) 0 d)) ≡ one_at k (key s) = refl in
    omega (arith, both, first)
keyed-part key k (s ∷ states) (suc i) d below =
    let part = keyed-part key k states i d (omega (arith, below)) in
    let both = keyed-cons key k s states in
    let next : one_at k (key (slice_index_or (s ∷ states) (suc i) d)) ≡ one_at k (key (slice_index_or states i d)) = refl in
    omega (arith, part, both, next)

module _ {S : Type 0} (key : S → ℕ) (states : List S) (counts : List ℕ) (kept : IsRegistered key states counts) where
  pub some_at : (i : ℕ) (d : S) → i < length states → 0 < slice_index counts (key (slice_index_or states i d))
  some_at i d below =
      let k = key (slice_index_or states i d) in
      let counted = kept.counted k (kept.within i d below) in
      let part = keyed-part key k states i d below in
      let one = one_same k k refl in
      omega (arith, counted, part, one)

  pub few_at : (k : ℕ) → k < length counts → slice_index counts k ≤ 81
  few_at k within =
      let counted = kept.counted k within in
      let few = keyed-few key k states in
      omega (arith, counted, few, kept.few)

  -- one state is changed
  module _ (i before : ℕ) (state : S) (below : i < length states) (was : before ≡ key (slice_index_or states i state)) (within : key state < length counts) where
    before_in : before < length counts
    before_in = rw was (kept.within i state below)

    before_some : 0 < slice_index counts before
    before_some = rw was (some_at i state below)

    abbrev fewer : List ℕ
    fewer = slice_set counts before (slice_index counts before - 1)

    abbrev more : List ℕ
    more = slice_set fewer (key state) (slice_index fewer (key state) + 1)

    fewer_length : length fewer ≡ length counts
    fewer_length = length-set counts before (slice_index counts before - 1)

    more_length : length more ≡ length counts
    more_length = length-set fewer (key state) (slice_index fewer (key state) + 1) ∙ fewer_length

    fewer_one : (k : ℕ) → slice_index fewer k + one_at k before ≡ slice_index counts k
    fewer_one k = fewer_at counts before k before_in before_some

    more_one : (k : ℕ) → slice_index more k ≡ slice_index fewer k + one_at k (key state)
    more_one k = more_at fewer (key state) k (omega (arith, within, fewer_length))

    counted_more : (k : ℕ) → k < length counts → slice_index more k ≡ keyed key k (slice_set states i state)
    counted_more k in_counts =
        let counted = kept.counted k in_counts in
        let less = fewer_one k in
        let grown = more_one k in
        let changed = sum_by-set (λ s. one_at k (key s)) states i state state below in
        let old : one_at k before ≡ one_at k (key (slice_index_or states i state)) = ap (one_at k) was in
        omega (arith, counted, less, grown, changed, old)

    within_still : (j : ℕ) (s : S) → j < length states → key (slice_index_or (slice_set states i state) j s) < length counts
    within_still j s in_states = elim (same_or_not j i) [
      | inl e ↦ rw (get_or-set_at states i j state s e below) within
      | inr apart ↦ rw (get_or-set_other states i j state s apart) (kept.within j s in_states)
    ]

    pub registered_set : (now : List ℕ) → now ≡ slice_set (slice_set counts before (slice_index counts before - 1)) (key state) (slice_index (slice_set counts before (slice_index counts before - 1)) (key state) + 1) → IsRegistered key (slice_set states i state) now
    registered_set now is =
        let now_length : length now ≡ length counts = ap length is ∙ more_length in
        let states_length = length-set states i state in record {
          few = omega (arith, states_length, kept.few);
          counted = λ k in_now. ap (λ c. slice_index c k) is ∙ counted_more k (omega (arith, in_now, now_length));
          within = λ j s in_states.
              let before = within_still j s (omega (arith, in_states, states_length)) in
              omega (arith, before, now_length);
        }

    pub few_now : slice_index (slice_set counts before (slice_index counts before - 1)) (key state) ≤ 81
    few_now =
        let less = fewer_one (key state) in
        let few = few_at (key state) within in
        omega (arith, less, few)

pub length-tabulate : {S : Type 0} (n : ℕ) (f : ℕ → S) → length (tabulate n f) ≡ n
length-tabulate zero f = refl
length-tabulate (suc n) f =
    let both = length-append (tabulate n f) (f n ∷ []) in
    let before = length-tabulate n f in
    let one : length (f n ∷ []) ≡ 1 = refl in
    omega (arith, both, before, one)
