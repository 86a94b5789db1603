-- A range whose front holds a pattern over and over.
use Rattle.std.proofs.Common.{ℕ, List, ◌+◌, ◌-◌, ◌*◌, ◌%◌, ◌≤◌, ◌<◌, ◌≡◌, ◌⊎◌, length, min, get_or, arith, inl, inr, sym, ◌∙◌, ap, subst}
use Rattle.std.proofs.Math.Nat.{mul-add-mod_self_right, mod-eq_of_lt, add-mul}
use Rattle.std.proofs.lemmas.Bool.{cases_lt}

pub record Filled (range : List ℕ) (pattern : List ℕ) (done : ℕ) : Type 0 where
  pub within : done ≤ length range
  pub some : 0 < length range → 0 < done
  pub bytes : (k : ℕ) → k < done → get_or range k 0 ≡ get_or pattern (k % length pattern) 0
  pub whole : ((q : ℕ) × (done ≡ q * length pattern)) ⊎ (done ≡ length range)

pub filled_first : (range pattern : List ℕ) (n : ℕ) → 0 < length pattern → n ≡ min (length pattern) (length range)
    → ((k : ℕ) → k < n → get_or range k 0 ≡ get_or pattern k 0) → Filled range pattern n
filled_first range pattern n p e h = record {
  within = omega arith;
  some = λ r. omega arith;
  bytes = λ k b. h k b ∙ ap (λ i. get_or pattern i 0) (sym (mod-eq_of_lt {n = k} {m = length pattern} (omega arith)));
  whole = elim (cases_lt (length range) (length pattern)) [ inl short ↦ inr (omega arith) | inr long ↦ inl (1, omega arith) ];
}

-- what is copied behind whole patterns goes on where they end
after_whole : (old new pattern : List ℕ) (done n q : ℕ) → Filled old pattern done → done ≡ q * length pattern → n ≤ done
    → ((k : ℕ) → k < done → get_or new k 0 ≡ get_or old k 0)
    → ((k : ℕ) → k < n → get_or new (done + k) 0 ≡ get_or old k 0)
    → (k : ℕ) → k < done + n → get_or new k 0 ≡ get_or pattern (k % length pattern) 0
after_whole old new pattern done n q f whole most front behind k b =
    elim (cases_lt k done) [
      | inl l ↦ front k l ∙ f.bytes k l
      | inr g ↦
          let at : done + (k - done) ≡ k = omega arith in
          let same : (q * length pattern + (k - done)) % length pattern ≡ (k - done) % length pattern = mul-add-mod_self_right q (length pattern) (k - done) in
          let here : k % length pattern ≡ (k - done) % length pattern = ap (λ i. i % length pattern) (sym at ∙ ap (λ d. d + (k - done)) whole) ∙ same in
          subst (λ i. get_or new i 0 ≡ get_or pattern (k % length pattern) 0) at
          (behind (k - done) (omega arith) ∙ f.bytes (k - done) (omega arith) ∙ ap (λ i. get_or pattern i 0) (sym here))
    ]

pub filled_more : (old new pattern : List ℕ) (done n : ℕ) → Filled old pattern done → done < length old
    → length new ≡ length old → n ≡ min done (length old - done)
    → ((k : ℕ) → k < done → get_or new k 0 ≡ get_or old k 0)
    → ((k : ℕ) → k < n → get_or new (done + k) 0 ≡ get_or old k 0)
    → Filled new pattern (done + n)
filled_more old new pattern done n f below e m front behind =
    elim f.whole [
      | inl w ↦ record {
        within = omega arith;
        some = λ r. omega (arith, f.some);
        bytes = after_whole old new pattern done n w.0 f w.1 (omega arith) front behind;
        whole = elim (cases_lt (length old - done) done) [ inl less ↦ inr (omega arith) | inr more ↦ inl (w.0 + w.0, omega (arith, add-mul w.0 w.0 (length pattern), w.1)) ];
      }
      | inr full ↦ absurd (omega arith)
    ]
