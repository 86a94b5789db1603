-- What a run gives, and what the rules ask: numbers by sender, and the way of a token.
use Rattle.std.proofs.Common.{◌≡◌, ℕ, zero, suc, ◌+◌, ◌<◌, ◌≤◌, ◌==◌, ◌⊎◌, nat_lt, Bool, true, false, cond, List, [], ◌∷◌, map, filter, length, slice_get, Option, Some, refl, sym, ap, subst, ◌∙◌, inl, inr, arith, IsTrue}
use Rattle.std.specs.List.{list_all, range_with_len}
use Rattle.std.proofs.lemmas.Bool.{and_from, eq-eqb, cases_order, lt-ltb, ltb-true, true≢false}
use Rattle.lw_base.specs.declared.message.Tag.{Tag}
use Rattle.lw_base.specs.declared.message.What.{What}
use Rattle.lw_model.specs.declared.record.Record.{Record}
use Rattle.lw_model.specs.Threads.{thread_count}
use Rattle.lw_model.specs.OwnOrder.{with_past}
use Rattle.lw_model.specs.Sent.{first_runner}
use Rattle.lw_model.specs.Moves.{number_fits}
use Rattle.lw_model.specs.Lawful.{has_run}
use Rattle.lw_model.proofs.ExactSent.{from, from-cons}

abbrev of_sender : ℕ → List Tag → List Tag
of_sender s ms = filter (λ m. m.sender == s) ms

-- where of each sender the numbers go on without a gap, each message is numbered as it should be
pub numbered_by_sender : (past rest : List Tag) → ((s : ℕ) → map (λ m. m.number) (of_sender s rest) ≡ range_with_len (from s past) (length (of_sender s rest))) → IsTrue (list_all (λ p. number_fits p.0 p.1) (with_past past rest))
numbered_by_sender past [] each = refl
numbered_by_sender past (m ∷ rest) each =
    and_from (number_fits past m) (list_all (λ p. number_fits p.0 p.1) (with_past (m ∷ past) rest))
    (eq-eqb m.number (from m.sender past) (own (m.sender == m.sender) (eq-eqb m.sender m.sender refl) (each m.sender)))
    (numbered_by_sender (m ∷ past) rest (λ s. subst (λ k. map (λ x. x.number) (of_sender s rest) ≡ range_with_len k (length (of_sender s rest))) (sym (from-cons s m past)) (others s (m.sender == s) (each s))))
  where
    own : (b : Bool) → b ≡ true → map (λ x. x.number) (cond b (m ∷ of_sender m.sender rest) (of_sender m.sender rest)) ≡ range_with_len (from m.sender past) (length (cond b (m ∷ of_sender m.sender rest) (of_sender m.sender rest))) → m.number ≡ from m.sender past
    own true e h = cc
    own false e h = absurd (true≢false (sym e))

    others : (s : ℕ) (b : Bool) → map (λ x. x.number) (cond b (m ∷ of_sender s rest) (of_sender s rest)) ≡ range_with_len (from s past) (length (cond b (m ∷ of_sender s rest) (of_sender s rest))) → map (λ x. x.number) (of_sender s rest) ≡ range_with_len (cond b (suc (from s past)) (from s past)) (length (of_sender s rest))
    others s true h = tails h ∙ ap (λ k. range_with_len k (length (of_sender s rest))) (omega arith)
      where
        tails : {x y : ℕ} {xs ys : List ℕ} → x ∷ xs ≡ y ∷ ys → xs ≡ ys
        tails e = cc
    others s false h = h

-- The way of a token: R is who ran it, `next` whom each of these sent it to, `start` whom its origin sent it to.
module _ (R : ℕ → Type 0) (next : ℕ → Option ℕ) (start : ℕ)
    (up : (s t : ℕ) → next s ≡ Some t → s < t)
    (came : (t : ℕ) → R t → (t ≡ start) ⊎ ((s : ℕ) × R s × (next s ≡ Some t))) where
  -- nobody below the start ran it
  pub from_start : (n t : ℕ) → t < n → R t → start ≤ t
  from_start zero t h ran = absurd (omega arith)
  from_start (suc n) t h ran = elim (came t ran) [
    | inl is ↦ omega (arith, is)
    | inr by ↦ omega (arith, up by.0 t by.2, from_start n by.0 (omega (arith, up by.0 t by.2)) by.1)
  ]

  -- between a runner and whom it sent it to nobody ran it
  pub no_gap : (n s t : ℕ) → t < n → R s → R t → s < t → (k : ℕ) × (next s ≡ Some k) × (k ≤ t)
  no_gap zero s t h ran_s ran_t less = absurd (omega arith)
  no_gap (suc n) s t h ran_s ran_t less = elim (came t ran_t) [
    | inl is ↦ absurd (omega (arith, is, from_start (suc s) s (omega arith) ran_s))
    | inr by ↦ elim (cases_order s by.0) [
      | inl same ↦ (t, subst (λ q. next q ≡ Some t) (sym same) by.2, omega arith)
      | inr other ↦ elim other [
        | inl below ↦ let rest = no_gap n s by.0 (omega (arith, up by.0 t by.2)) ran_s by.1 below in (rest.0, rest.1, omega (arith, rest.2, up by.0 t by.2))
        | inr above ↦ let rest = no_gap n by.0 s (omega arith) by.1 ran_s above in absurd (clash (next by.0) rest.0 by.2 rest.1 rest.2)
      ]
    ]
  ]
    where
      clash : (o : Option ℕ) (k : ℕ) → o ≡ Some t → o ≡ Some k → k ≤ s → ⊥
      clash o k e f h = let same : t ≡ k = cc in omega (arith, same)

-- the first number of a range that passes both tests
pub first_in_range : (p q : ℕ → Bool) (a n k : ℕ) → a ≤ k → k < a + n → p k ≡ true → q k ≡ true → ((j : ℕ) → j < k → p j ≡ true → q j ≡ true → ⊥) → slice_get (filter q (filter p (range_with_len a n))) 0 ≡ Some k
first_in_range p q a zero k low high pk qk none = absurd (omega arith)
first_in_range p q a (suc n) k low high pk qk none = elim (cases_order a k) [
  | inl same ↦ here (p a) (q a) (subst (λ j. p j ≡ true) (sym same) pk) (subst (λ j. q j ≡ true) (sym same) qk) same
  | inr other ↦ elim other [
    | inl below ↦ later (p a) (q a) (λ pa qa. none a below pa qa) (first_in_range p q (a + 1) n k (omega arith) (omega arith) pk qk none)
    | inr above ↦ absurd (omega arith)
  ]
]
  where
    rest : List ℕ
    rest = filter p (range_with_len (a + 1) n)

    here : (b d : Bool) → b ≡ true → d ≡ true → a ≡ k → slice_get (filter q (cond b (a ∷ rest) rest)) 0 ≡ Some k
    here true d e f same = ap (λ z. slice_get (cond z (a ∷ filter q rest) (filter q rest)) 0) (now d f) ∙ ap Some same
      where
        now : (d : Bool) → d ≡ true → q a ≡ true
        now d f = subst (λ j. q j ≡ true) (sym same) qk
    here false d e f same = absurd (true≢false (sym e))

    later : (b d : Bool) → (b ≡ true → q a ≡ true → ⊥) → slice_get (filter q rest) 0 ≡ Some k → slice_get (filter q (cond b (a ∷ rest) rest)) 0 ≡ Some k
    later false d never e = e
    later true d never e = skip (q a) (never refl)
      where
        skip : (z : Bool) → (z ≡ true → ⊥) → slice_get (cond z (a ∷ filter q rest) (filter q rest)) 0 ≡ Some k
        skip true n = absurd (n refl)
        skip false n = e

-- so the sent list's "next greater thread that ran it" is whom the runner's body sent the token to
pub next_is_first : (r : Record) (w : What) (s t : ℕ) → t < thread_count r.script → s < t → has_run r w t ≡ true → ((j : ℕ) → s < j → j < t → has_run r w j ≡ true → ⊥) → first_runner r w (nat_lt s) ≡ Some t
next_is_first r w s t within less ran none =
    first_in_range (has_run r w) (nat_lt s) 0 (thread_count r.script) t (omega arith) (omega arith) ran (lt-ltb s t less) (λ j below has above. none j (ltb-true s j above) below has)
