-- What is written at the front of a line is read back.
use Rattle.std.proofs.Common.{◌≡◌, ℕ, ◌+◌, ◌^◌, ◌<◌, ◌≤◌, ◌==◌, nat_lt, nat_le, Bool, true, false, cond, ◌&&◌, ◌||◌, not, if◌then◌else◌, List, [], ◌∷◌, ◌++◌, length, take, drop, get_or, flat_map, append_assoc, decimal, Option, Some, None, option_and_then, refl, sym, ap, ap₂, subst, ◌∙◌, inl, inr, arith}
use Rattle.std.specs.List.{list_all, prefix_len}
use Rattle.std.specs.Fmt.{digits}
use lib.Pointwise.{bytes_decides}
use Rattle.std.proofs.lemmas.Bool.{and_parts, and_from, le-leb, lt-ltb, eq-eqb, ne_eqb, cases_eq, true≢false}
use Rattle.std.proofs.lemmas.Fmt.{digits_decimal, digits_value-decimal, first_decimal, decimal_nonempty}
use Rattle.lw_base.specs.TextLines.{value_from}
use Rattle.lw_base.specs.Words.{greatest_u32, greatest_u64}
use Rattle.lw_report_lines.specs.LineParts.{after, is_digit, is_no_digit, ends_word, digit_count, word_length, is_plain, number, spaced, word}
use Rattle.lw_report_lines.specs.LineKinds.{ended, last32, last64}
use Rattle.lw_report_lines.proofs.PartTexts.{AreDigits, numerals, place_is}

-- a list's front and what follows it
take_front : {X : Type 0} (xs ys : List X) → take (length xs) (xs ++ ys) ≡ xs
take_front [] ys = refl
take_front (x ∷ xs) ys = ap (λ q. x ∷ q) (take_front xs ys)

drop_front : {X : Type 0} (xs ys : List X) → drop (length xs) (xs ++ ys) ≡ ys
drop_front [] ys = refl
drop_front (x ∷ xs) ys = drop_front xs ys

pub after_back : (text rest : List ℕ) → after text (text ++ rest) ≡ Some rest
after_back text rest =
    ap (λ b. if b then Some (drop (length text) (text ++ rest)) else None) ((bytes_decides (take (length text) (text ++ rest)) text).1 (take_front text rest))
    ∙ ap Some (drop_front text rest)

-- where bytes that pass end before one that doesn't
prefix_front : (p : ℕ → Bool) (xs : List ℕ) (y : ℕ) (ys : List ℕ) → list_all p xs ≡ true → p y ≡ false → prefix_len p (xs ++ y ∷ ys) ≡ length xs
prefix_front p [] y ys all fails = ap (λ b. cond b (1 + prefix_len p ys) 0) fails
prefix_front p (x ∷ xs) y ys all fails =
    let h = and_parts (p x) (list_all p xs) all in
    ap (λ b. cond b (1 + prefix_len p (xs ++ y ∷ ys)) 0) h.0 ∙ ap (λ n. 1 + n) (prefix_front p xs y ys h.1 fails) ∙ omega arith

-- bytes that begin with no digit
abbrev pub NoDigit : List ℕ → Type 0
NoDigit [] = ⊥
NoDigit (b ∷ bs) = is_digit b ≡ false

digits_counted : (ds rest : List ℕ) → list_all is_digit ds ≡ true → NoDigit rest → digit_count (ds ++ rest) ≡ length ds
digits_counted ds [] all h = absurd h
digits_counted ds (b ∷ rest) all h =
    place_is is_no_digit (ds ++ b ∷ rest)
    ∙ prefix_front (λ x. not (is_no_digit x)) ds b rest (twice ds all) (ap (λ q. not (not q)) h)
  where
    one : (q r : Bool) → q ≡ true → r ≡ true → (not (not q) && r) ≡ true
    one true r e f = f
    one false r e f = absurd (true≢false (sym e))

    twice : (xs : List ℕ) → list_all is_digit xs ≡ true → list_all (λ x. not (is_no_digit x)) xs ≡ true
    twice [] all = refl
    twice (x ∷ xs) all = let k = and_parts (is_digit x) (list_all is_digit xs) all in one (is_digit x) (list_all (λ y. not (is_no_digit y)) xs) k.0 (twice xs k.1)

pub are_all : (ds : List ℕ) → AreDigits ds → list_all is_digit ds ≡ true
unfolding AreDigits
are_all ds h = h

zero_plain : is_plain (decimal 0) ≡ true
unfolding digits
zero_plain = refl

plain_decimal : (n : ℕ) → n < 2 ^ 64 → is_plain (decimal n) ≡ true
plain_decimal n small = elim (cases_eq n 0) [
  | inl zero_is ↦ subst (λ k. is_plain (decimal k) ≡ true) (sym zero_is) zero_plain
  | inr some ↦ at (length (decimal n) == 1) refl (first_decimal n (omega (arith, some)) small) (decimal_nonempty n small)
]
  where
    at : (b : Bool) → (length (decimal n) == 1) ≡ b → 48 < get_or (decimal n) 0 0 → 0 < length (decimal n) → (b || nat_lt 1 (length (decimal n)) && not (get_or (decimal n) 0 0 == 48)) ≡ true
    at true e first long = refl
    at false e first long =
        and_from (nat_lt 1 (length (decimal n))) (not (get_or (decimal n) 0 0 == 48)) (lt-ltb 1 (length (decimal n)) (omega (arith, long, eqb_not (length (decimal n)) e)))
        (ap not (ne_eqb (get_or (decimal n) 0 0) 48 (λ q. absurd (omega (arith, first, q)))))
      where
        eqb_not : (k : ℕ) → (k == 1) ≡ false → k ≡ 1 → ⊥
        eqb_not k e is = absurd (true≢false (sym (eq-eqb k 1 is) ∙ e))

pub number_back : (most n : ℕ) (rest : List ℕ) → most ≤ greatest_u64 → n ≤ most → NoDigit rest → number most (decimal n ++ rest) ≡ Some (n, rest)
number_back most n rest wide within other =
    let small : n < 2 ^ 64 = omega arith in
    let digits = are_all (decimal n) (digits_decimal numerals n small) in
    let count = digits_counted (decimal n) rest digits other in
    let value = digits_value-decimal numerals n small in
    ap (λ k. if is_plain (take k (decimal n ++ rest)) && nat_le (value_from 0 (take k (decimal n ++ rest))) most then Some (value_from 0 (take k (decimal n ++ rest)), drop k (decimal n ++ rest)) else None) count
    ∙ ap₂ (λ ds r. if is_plain ds && nat_le (value_from 0 ds) most then Some (value_from 0 ds, r) else None) (take_front (decimal n) rest) (drop_front (decimal n) rest)
    ∙ ap (λ v. if is_plain (decimal n) && nat_le v most then Some (v, rest) else None) value
    ∙ ap (λ b. if b then Some (n, rest) else None) (and_from (is_plain (decimal n)) (nat_le n most) (plain_decimal n small) (le-leb n most within))

-- ---- words behind spaces

abbrev pub tail_of : List (List ℕ) → List ℕ
tail_of ws = flat_map (λ w. 32 ∷ w) ws ++ 10 ∷ []

pub tail_cons : (w : List ℕ) (ws : List (List ℕ)) → tail_of (w ∷ ws) ≡ 32 ∷ (w ++ tail_of ws)
tail_cons w ws = append_assoc (32 ∷ w) (flat_map (λ w. 32 ∷ w) ws) (10 ∷ [])

pub tail_no_digit : (ws : List (List ℕ)) → NoDigit (tail_of ws)
tail_no_digit [] = refl
tail_no_digit (w ∷ ws) = refl

pub spaced_back : (most n : ℕ) (ws : List (List ℕ)) → most ≤ greatest_u64 → n ≤ most → spaced most (tail_of (decimal n ∷ ws)) ≡ Some (n, tail_of ws)
spaced_back most n ws wide within =
    ap (λ l. option_and_then (number most) (after (32 ∷ []) l)) (tail_cons (decimal n) ws)
    ∙ ap (option_and_then (number most)) (after_back (32 ∷ []) (decimal n ++ tail_of ws))
    ∙ number_back most n (tail_of ws) wide within (tail_no_digit ws)

pub back32 : (n : ℕ) (ws : List (List ℕ)) → n ≤ greatest_u32 → spaced greatest_u32 (tail_of (decimal n ∷ ws)) ≡ Some (n, tail_of ws)
back32 n ws within = spaced_back greatest_u32 n ws (omega arith) within

pub back64 : (n : ℕ) (ws : List (List ℕ)) → n ≤ greatest_u64 → spaced greatest_u64 (tail_of (decimal n ∷ ws)) ≡ Some (n, tail_of ws)
back64 n ws within = spaced_back greatest_u64 n ws (omega arith) within

pub last32_back : (n : ℕ) → n ≤ greatest_u32 → last32 (tail_of (decimal n ∷ [])) ≡ Some n
last32_back n within = ap (λ (o : Option (ℕ × List ℕ)). option_and_then (λ p. ended p.1 p.0) o) (back32 n [] within)

pub last64_back : (n : ℕ) → n ≤ greatest_u64 → last64 (tail_of (decimal n ∷ [])) ≡ Some n
last64_back n within = ap (λ (o : Option (ℕ × List ℕ)). option_and_then (λ p. ended p.1 p.0) o) (back64 n [] within)

-- a word without a space or a line feed
word_ends : (ws : List (List ℕ)) → (b : ℕ) × (bs : List ℕ) × (tail_of ws ≡ b ∷ bs) × (ends_word b ≡ true)
word_ends [] = (10, [], refl, refl)
word_ends (w ∷ ws) = (32, w ++ flat_map (λ w. 32 ∷ w) ws ++ 10 ∷ [], refl, refl)

pub word_back : (w : List ℕ) (ws : List (List ℕ)) → 0 < length w → list_all (λ b. not (ends_word b)) w ≡ true → word (tail_of (w ∷ ws)) ≡ Some (w, tail_of ws)
word_back w ws some whole =
    let e = word_ends ws in
    let count : word_length (w ++ tail_of ws) ≡ length w =
    place_is ends_word (w ++ tail_of ws)
    ∙ ap (λ r. prefix_len (λ x. not (ends_word x)) (w ++ r)) e.2
    ∙ prefix_front (λ x. not (ends_word x)) w e.0 e.1 whole (ap not e.3) in
    ap (λ l. option_and_then (λ rest. if nat_lt 0 (word_length rest) then Some (take (word_length rest) rest, drop (word_length rest) rest) else None) (after (32 ∷ []) l)) (tail_cons w ws)
    ∙ ap (option_and_then (λ rest. if nat_lt 0 (word_length rest) then Some (take (word_length rest) rest, drop (word_length rest) rest) else None)) (after_back (32 ∷ []) (w ++ tail_of ws))
    ∙ ap (λ k. if nat_lt 0 k then Some (take k (w ++ tail_of ws), drop k (w ++ tail_of ws)) else None) count
    ∙ ap (λ b. if b then Some (take (length w) (w ++ tail_of ws), drop (length w) (w ++ tail_of ws)) else None) (lt-ltb 0 (length w) some)
    ∙ ap₂ (λ a b. Some (a, b)) (take_front w (tail_of ws)) (drop_front w (tail_of ws))
