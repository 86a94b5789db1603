-- Numbers in words.
use Rattle.std.proofs.Common.{◌≡◌, ◌∙◌, ◌<◌, ◌≤◌, ◌+◌, ◌^◌, OkIff, ◌&&◌, ℕ, Bool, true, false, refl, sym, ap, subst, arith, List, [], ◌∷◌, length, nat_le, drop, ◌==◌, eqb-true, leb-true, leb-false, le-leb, Some, None, Result, Ok, Err, cond, option_and_then}
use Rattle.std.specs.List.{list_all}
use Rattle.std.specs.Result.{result_ok}
use Rattle.std.specs.Str.Parse.{AllDigits, IsNumeral, ParsesUnsigned, digits_value, without_leading_plus}
use Rattle.std.specs.Char.{digit_value}
use Rattle.std.proofs.lemmas.Str.{digit_value_digit}
use Rattle.clap.proofs.WalkLemmas.{both}
use Rattle.clap.specs.Lexer.{is_digit}
use Rattle.lw_model.specs.ScriptRules.{is_within}
use Rattle.lw_program.specs.Words.{is_numeral, number_in}

abbrev most64 : ℕ
most64 = 18446744073709551615

-- a narrower range
pub narrower : (least most : ℕ) (text : List ℕ) → most ≤ most64 → number_in least most text ≡ option_and_then (λ n. cond (is_within least most n) (Some n) None) (number_in 0 most64 text)
narrower least most text fits = by (is_numeral text) (digits_value 10 text)
  where
    far : (n : ℕ) → (b : Bool) → nat_le n most64 ≡ b → cond (nat_le least n && nat_le n most) (Some n) None ≡ option_and_then (λ m. cond (is_within least most m) (Some m) None) (cond b (Some n) None)
    far n true e = refl
    far n false e = over (nat_le n most) refl
      where
        over : (b : Bool) → nat_le n most ≡ b → cond (nat_le least n && b) (Some n) None ≡ None
        over true h = let below = leb-true n most h in let past = leb-false n most64 e in absurd (omega (arith, fits, below, past))
        over false h = none (nat_le least n)
          where
            none : (b : Bool) → cond (b && false) (Some n) None ≡ None
            none true = refl
            none false = refl

    by : (b : Bool) (n : ℕ) → cond (b && is_within least most n) (Some n) None ≡ option_and_then (λ m. cond (is_within least most m) (Some m) None) (cond (b && is_within 0 most64 n) (Some n) None)
    by false n = refl
    by true n = rw (le-leb 0 n (omega arith)) (far n (nat_le n most64) refl)

-- digits have no sign
no_plus : (text : List ℕ) → list_all is_digit text ≡ true → without_leading_plus text ≡ text
no_plus [] e = refl
no_plus (b ∷ rest) e = by (b == 43) refl
  where
    by : (c : Bool) → (b == 43) ≡ c → drop (cond c 1 0) (b ∷ rest) ≡ b ∷ rest
    by false h = refl
    by true h =
        let plus : b ≡ 43 = eqb-true b 43 h in
        let digit : (nat_le 48 43 && nat_le 43 57) ≡ true = subst (λ x. (nat_le 48 x && nat_le x 57) ≡ true) plus (both _ _ e).0 in
        cc

all_digits : (text : List ℕ) → list_all is_digit text ≡ true → AllDigits 10 text
all_digits [] e = tt
all_digits (b ∷ rest) e =
    let parts = both (is_digit b) (list_all is_digit rest) e in
    let range = both (nat_le 48 b) (nat_le b 57) parts.0 in
    let value : digit_value b + 48 ≡ b = digit_value_digit b (leb-true 48 b range.0, leb-true b 57 range.1) in
    let high = leb-true b 57 range.1 in
    (omega (arith, value, high), all_digits rest parts.1)

-- what `parse` reads of digits
pub parsed : {E : Type 0} (text : List ℕ) (r : Result ℕ E) → is_numeral text ≡ true → ParsesUnsigned 64 10 text r → result_ok r ≡ number_in 0 most64 text
parsed text r is parse =
    let parts = both (is_within 1 20 (length text)) (list_all is_digit text) is in
    let long = both (nat_le 1 (length text)) (nat_le (length text) 20) parts.0 in
    let plain = subst (λ t. OkIff r (IsNumeral 10 t × (digits_value 10 t < 2 ^ 64)) (digits_value 10 t)) (no_plus text parts.1) parse in
    go r (digits_value 10 text) (leb-true 1 (length text) long.0, all_digits text parts.1) plain ∙ sym (rw (is, le-leb 0 (digits_value 10 text) (omega arith)) refl)
  where
    go : {E : Type 0} (q : Result ℕ E) (n : ℕ) → IsNumeral 10 text → OkIff q (IsNumeral 10 text × (n < 2 ^ 64)) n → result_ok q ≡ cond (nat_le n most64) (Some n) None
    go (Ok m) n numeral h = let below = h.0.1 in rw (le-leb n most64 (omega (arith, below))) (ap Some h.1)
    go (Err x) n numeral h = past (nat_le n most64) refl
      where
        past : (b : Bool) → nat_le n most64 ≡ b → None ≡ cond b (Some n) None
        past false e = refl
        past true e = let within = leb-true n most64 e in absurd (h (numeral, omega (arith, within)))
