-- How many live pollers have a number, and the set of those numbers, after a change.
use Rattle.std.proofs.Common.{◌≡◌, ◌≢◌, ℕ, ◌+◌, ◌^◌, ◌<◌, ◌≤◌, List, length, cond, sym, ap, ◌∙◌, ⊎_elim, arith, All}
use Rattle.std.specs.Prelude.{slice_index_or}
use Rattle.std.specs.List.{sum_by}
use Rattle.std.specs.Int.{bit_at}
use Rattle.std.proofs.lemmas.Bool.{cases_eq, cases_lt, eq-eqb, ne_eqb}
use Rattle.std.proofs.lemmas.Nat.Bits.{bit_at_above, bit_at-lt}
use Rattle.std.proofs.lemmas.List.Sums.{get_or-le-sum_by, sum_by-le}
use Rattle.lw_poller.specs.Numbers.{Lacks, IsWith, IsWithout}
use Rattle.lw_poller.specs.Pollers.{same}

pub same_self : (k number : ℕ) → number ≡ k → same k number ≡ 1
same_self k number e = ap (λ b. cond b 1 0) (eq-eqb number k e)

pub same_other : (k number : ℕ) → (number ≡ k → ⊥) → same k number ≡ 0
same_other k number e = ap (λ b. cond b 1 0) (ne_eqb number k e)

-- a number more
pub one_more : (live live' number : ℕ) (was is : ℕ → ℕ) → ((k : ℕ) → was k ≡ bit_at live k) → Lacks live number → IsWith number live live'
    → ((k : ℕ) → is k ≡ was k + same k number) → (k : ℕ) → is k ≡ bit_at live' k
one_more live live' number was is before free w now k = ⊎_elim
    (λ (e : number ≡ k). (let n = now k in let b = before k in let s = same_self k number e in
    let f : bit_at live k ≡ 0 = ap (bit_at live) (sym e) ∙ free in
    let h : bit_at live' k ≡ 1 = ap (bit_at live') (sym e) ∙ w.has in omega arith))
    (λ (e : number ≡ k → ⊥). (let n = now k in let b = before k in let s = same_other k number e in let o = w.others k (λ q. e (sym q)) in omega arith))
    (cases_eq number k)

-- a number less
pub one_less : (live live' number : ℕ) (was is : ℕ → ℕ) → live < 2 ^ 64 → live' < 2 ^ 64 → ((k : ℕ) → was k ≡ bit_at live k) → IsWithout number live live'
    → ((k : ℕ) → is k + same k number ≡ was k) → (k : ℕ) → is k ≡ bit_at live' k
one_less live live' number was is few few' before w now k = ⊎_elim
    (λ (e : number ≡ k).
    (let n = now k in
    let b = before k in
    let s = same_self k number e in
    let one = bit_at-lt live k in
    let h : bit_at live' k ≡ 0 = ap (bit_at live') (sym e) ∙ w.lacks in
    omega arith))
    (λ (e : number ≡ k → ⊥).
    (let n = now k in
    let b = before k in
    let s = same_other k number e in
    ⊎_elim
    (λ (low : k < 64). (let o = w.others k low (λ q. e (sym q)) in omega arith))
    (λ (high : 64 ≤ k). (let u = bit_at_above live 64 k few high in let v = bit_at_above live' 64 k few' high in omega arith))
    (cases_lt k 64)))
    (cases_eq number k)

-- an element of a list is counted under its number
pub counted : {X : Type 0} (number_of : X → ℕ) (xs : List X) (place k : ℕ) (d : X) → place < length xs → number_of (slice_index_or xs place d) ≡ k
    → 1 ≤ sum_by (λ x. same k (number_of x)) xs
counted number_of xs place k d within e =
    let l = get_or-le-sum_by (λ x. same k (number_of x)) xs place d within in
    let s = same_self k (number_of (slice_index_or xs place d)) e in
    omega arith

-- where no element has the number, none is counted
pub uncounted : {X : Type 0} (number_of : X → ℕ) (xs : List X) (k : ℕ) → All (λ x. number_of x ≢ k) xs → sum_by (λ x. same k (number_of x)) xs ≡ 0
uncounted number_of xs k none =
    let l = sum_by-le (λ x. same k (number_of x)) 0 xs (λ i d within. (let s = same_other k (number_of (slice_index_or xs i d)) (none i d within) in omega arith)) in
    omega arith

-- a counted number is below 64
pub counted_below : (live k n : ℕ) → live < 2 ^ 64 → n ≡ bit_at live k → 1 ≤ n → k < 64
counted_below live k n few is some = ⊎_elim
    (λ (low : k < 64). low)
    (λ (high : 64 ≤ k). absurd (let u = bit_at_above live 64 k few high in omega arith))
    (cases_lt k 64)
