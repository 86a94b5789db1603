-- Setting the shut bit of a word.
use Rattle.std.proofs.Common.{◌≡◌, ◌≢◌, ℕ, ◌+◌, ◌*◌, ◌/◌, ◌%◌, ◌^◌, ap, ◌∙◌, arith, bit_or}
use Rattle.std.proofs.lemmas.Nat.{or_block}
use mathlib.Core.Logic.{dite}
use native.Mathlib.Decide.{ℕ_discrete}
use Rattle.std.specs.Int.Bits.{or_zero_r}
use Rattle.lw_latch.specs.DeviceWord.{shut_unit}

odd_or_one : (m : ℕ) → bit_or m 1 ≡ m / 2 * 2 + 1
odd_or_one m = dite (ℕ_discrete (m % 2) 0)
    (λ even. (let is : m ≡ m / 2 * 2 ^ 1 + 0 = omega arith in ap (λ k. bit_or k 1) is ∙ or_block 1 (m / 2) 0 0 1 (omega arith) (omega arith) ∙ ap (λ k. k * 2 + 1) (or_zero_r (m / 2))))
    (λ odd. (let is : m ≡ m / 2 * 2 ^ 1 + 1 = omega arith in ap (λ k. bit_or k 1) is ∙ or_block 1 (m / 2) 0 1 1 (omega arith) (omega arith) ∙ ap (λ k. k * 2 + 1) (or_zero_r (m / 2))))

or_shut : (n : ℕ) → bit_or n shut_unit ≡ n / shut_unit / 2 * (2 * shut_unit) + shut_unit + n % shut_unit
or_shut n =
    let is : n ≡ n / shut_unit * 2 ^ 16 + n % shut_unit = omega arith in
    let parts = or_block 16 (n / shut_unit) 1 (n % shut_unit) 0 (omega arith) (omega arith) in
    ap (λ k. bit_or k shut_unit) is ∙ parts ∙ (λ i. odd_or_one (n / shut_unit) i * shut_unit + or_zero_r (n % shut_unit) i) ∙ omega arith

pub sets_shut : (n : ℕ) → n / shut_unit % 2 ≡ 0 → bit_or n shut_unit ≡ n + shut_unit
sets_shut n open_word = or_shut n ∙ omega arith

pub keeps_shut : (n : ℕ) → n / shut_unit % 2 ≢ 0 → bit_or n shut_unit ≡ n
keeps_shut n shut_word = or_shut n ∙ omega arith
