-- The text of what was read from the front of a line.
use Rattle.std.proofs.Common.{◌≡◌, ℕ, suc, ◌+◌, ◌<◌, ◌≤◌, ◌==◌, nat_lt, nat_le, Bool, true, false, cond, ◌&&◌, ◌||◌, ◌⊎◌, not, List, [], ◌∷◌, ◌++◌, length, take, drop, get_or, flat_map, append_assoc, decimal, Some, None, unwrap_or, refl, sym, ap, ap₂, subst, ◌∙◌, inl, inr, arith}
use Rattle.std.specs.List.{list_all, prefix_len, position_or_len}
use lib.Pointwise.{bytes_decides}
use Rattle.std.proofs.lemmas.List.{take-append-drop}
use Rattle.std.proofs.lemmas.Bool.{and_parts, and_from, leb-true, le-leb, ltb-true, eqb-true, eq-eqb, cases_lt, lt-ltb, le-ltb, false≢true}
use Rattle.std.proofs.lemmas.Fmt.{decimal-digits_value}
use Rattle.std.proofs.lemmas.Str.Parse.{IsNumeralModel, IsDigitsTest, FoldsDigits, numerals_by_fold}
use Rattle.lw_model.specs.ReportText.{line}
use Rattle.lw_base.specs.TextLines.{value_from}
use Rattle.lw_base.specs.Words.{greatest_u64}
use Rattle.lw_report_lines.specs.LineParts.{after, is_digit, is_no_digit, place_of_first, digit_count, word_length, is_plain, number, spaced, word, is_end}
use Rattle.lw_report_lines.proofs.Said.{some_parts, if_some}
use Rattle.lw_model.proofs.JoinedWords.{join-cons}

pub after_text : (text l rest : List ℕ) → after text l ≡ Some rest → l ≡ text ++ rest
after_text text l rest e =
    let a = if_some _ (drop (length text) l) rest e in
    sym (take-append-drop (length text) l) ∙ ap₂ (λ x y. x ++ y) ((bytes_decides (take (length text) l) text).0 a.0) a.1

-- ---- numbers

unfoldable pub AreDigits : List ℕ → Type 0
AreDigits ds = list_all is_digit ds ≡ true

digits_test : IsDigitsTest AreDigits
unfolding AreDigits
digits_test = record {
  empty = refl;
  parts = λ c cs e. let k = and_parts (is_digit c) (list_all is_digit cs) e in let m = and_parts (nat_le 48 c) (nat_le c 57) k.0 in ((leb-true 48 c m.0, leb-true c 57 m.1), k.1);
  more = λ c cs h e. and_from (is_digit c) (list_all is_digit cs) (and_from (nat_le 48 c) (nat_le c 57) (le-leb 48 c h.0) (le-leb c 57 h.1)) e;
}

digits_fold : FoldsDigits value_from
digits_fold = record { empty = λ n. refl; more = λ n c cs h. refl }

pub numerals : IsNumeralModel AreDigits (value_from 0)
numerals = numerals_by_fold AreDigits digits_test value_from digits_fold

-- what was found first is how many stand before it
pub place_is : (test : ℕ → Bool) (bs : List ℕ) → place_of_first test bs ≡ position_or_len test bs
place_is test bs = at (cases_lt (position_or_len test bs) (length bs))
  where
    none : (n m : ℕ) → m ≤ n → n ≤ m → unwrap_or (cond (nat_lt n m) (Some n) None) m ≡ n
    none n m h k = ap (λ b. unwrap_or (cond b (Some n) None) m) (le-ltb n m h) ∙ omega (arith, h, k)

    at : (position_or_len test bs < length bs) ⊎ (length bs ≤ position_or_len test bs) → place_of_first test bs ≡ position_or_len test bs
    at (inl lt) = ap (λ b. unwrap_or (cond b (Some (position_or_len test bs)) None) (length bs)) (lt-ltb (position_or_len test bs) (length bs) lt)
    at (inr ge) = none (position_or_len test bs) (length bs) ge (prefix_le (λ b. not (test b)) bs)
      where
        prefix_le : (p : ℕ → Bool) (xs : List ℕ) → prefix_len p xs ≤ length xs
        prefix_le p [] = omega arith
        prefix_le p (x ∷ xs) = by (p x) (prefix_le p xs)
          where
            by : (b : Bool) → prefix_len p xs ≤ length xs → cond b (1 + prefix_len p xs) 0 ≤ suc (length xs)
            by true h = omega (arith, h)
            by false h = omega arith

digits_taken : (bs : List ℕ) → AreDigits (take (position_or_len is_no_digit bs) bs)
unfolding AreDigits
digits_taken [] = refl
digits_taken (b ∷ bs) = at (is_digit b) refl (digits_taken bs)
  where
    one_more : (n : ℕ) → list_all is_digit (b ∷ take n bs) ≡ true → list_all is_digit (take (1 + n) (b ∷ bs)) ≡ true
    one_more n h = let e : 1 + n ≡ suc n = omega arith in subst (λ k. list_all is_digit (take k (b ∷ bs)) ≡ true) (sym e) h

    at : (d : Bool) → is_digit b ≡ d → list_all is_digit (take (position_or_len is_no_digit bs) bs) ≡ true
        → list_all is_digit (take (cond (not (not d)) (1 + position_or_len is_no_digit bs) 0) (b ∷ bs)) ≡ true
    at true e rest = one_more (position_or_len is_no_digit bs) (and_from (is_digit b) (list_all is_digit (take (position_or_len is_no_digit bs) bs)) e rest)
    at false e rest = refl

plain_parts : (ds : List ℕ) → is_plain ds ≡ true → (0 < length ds) × (get_or ds 0 0 ≡ 48 → length ds ≡ 1)
plain_parts ds e = at (length ds == 1) refl e
  where
    at : (b : Bool) → (length ds == 1) ≡ b → (b || nat_lt 1 (length ds) && not (get_or ds 0 0 == 48)) ≡ true → (0 < length ds) × (get_or ds 0 0 ≡ 48 → length ds ≡ 1)
    at true is e = (omega (arith, eqb-true (length ds) 1 is), λ z. eqb-true (length ds) 1 is)
    at false is e =
        let k = and_parts (nat_lt 1 (length ds)) (not (get_or ds 0 0 == 48)) e in
        (omega (arith, ltb-true 1 (length ds) k.0), λ z. absurd (false≢true (sym (ap not (eq-eqb (get_or ds 0 0) 48 z)) ∙ k.1)))

pub number_text : (most : ℕ) (l : List ℕ) (n : ℕ) (rest : List ℕ) → most ≤ greatest_u64 → number most l ≡ Some (n, rest) → l ≡ decimal n ++ rest
number_text most l n rest small e =
    let count = digit_count l in
    let ds = take count l in
    let a = if_some (is_plain ds && nat_le (value_from 0 ds) most) (value_from 0 ds, drop count l) (n, rest) e in
    let k = and_parts (is_plain ds) (nat_le (value_from 0 ds) most) a.0 in
    let plain = plain_parts ds k.0 in
    let digits : AreDigits ds = subst (λ c. AreDigits (take c l)) (sym (place_is is_no_digit l)) (digits_taken l) in
    let written : decimal (value_from 0 ds) ≡ ds = decimal-digits_value numerals ds digits plain.0 plain.1 (omega (arith, leb-true (value_from 0 ds) most k.1)) in
    sym (take-append-drop count l)
    ∙ ap (λ q. q ++ drop count l) (sym written)
    ∙ ap (λ (p : ℕ × List ℕ). decimal p.0 ++ p.1) a.1

pub number_most : (most : ℕ) (l : List ℕ) (n : ℕ) (rest : List ℕ) → number most l ≡ Some (n, rest) → n ≤ most
number_most most l n rest e =
    let ds = take (digit_count l) l in
    let a = if_some (is_plain ds && nat_le (value_from 0 ds) most) (value_from 0 ds, drop (digit_count l) l) (n, rest) e in
    let k = and_parts (is_plain ds) (nat_le (value_from 0 ds) most) a.0 in
    subst (λ q. q ≤ most) (ap (λ (p : ℕ × List ℕ). p.0) a.1) (leb-true (value_from 0 ds) most k.1)

-- ---- words behind spaces

-- a line's words from a space on, and its line feed
abbrev pub Tail : List (List ℕ) → List ℕ → Type 0
Tail ws l = l ≡ flat_map (λ w. 32 ∷ w) ws ++ 10 ∷ []

pub tail_end : (l : List ℕ) → is_end l ≡ true → Tail [] l
tail_end l e = (bytes_decides l (10 ∷ [])).0 e

pub tail_word : (w l rest : List ℕ) (ws : List (List ℕ)) → l ≡ 32 ∷ (w ++ rest) → Tail ws rest → Tail (w ∷ ws) l
tail_word w l rest ws e t = e ∙ ap (λ r. 32 ∷ (w ++ r)) t ∙ sym (append_assoc (32 ∷ w) (flat_map (λ w. 32 ∷ w) ws) (10 ∷ []))

pub spaced_text : (most : ℕ) (l : List ℕ) (p : ℕ × List ℕ) → most ≤ greatest_u64 → spaced most l ≡ Some p → l ≡ 32 ∷ (decimal p.0 ++ p.1)
spaced_text most l p small e =
    let a = some_parts (after (32 ∷ []) l) (number most) p e in
    after_text (32 ∷ []) l a.0 a.1 ∙ ap (λ r. 32 ∷ r) (number_text most a.0 p.0 p.1 small a.2)

pub word_text : (l : List ℕ) (p : List ℕ × List ℕ) → word l ≡ Some p → l ≡ 32 ∷ (p.0 ++ p.1)
word_text l p e =
    let a = some_parts (after (32 ∷ []) l) _ p e in
    let b = if_some (nat_lt 0 (word_length a.0)) (take (word_length a.0) a.0, drop (word_length a.0) a.0) p a.2 in
    after_text (32 ∷ []) l a.0 a.1
    ∙ ap (λ r. 32 ∷ r) (sym (take-append-drop (word_length a.0) a.0))
    ∙ ap (λ (q : List ℕ × List ℕ). 32 ∷ (q.0 ++ q.1)) b.1

-- a first word and the words behind it are a line
pub whole_line : (w l rest : List ℕ) (ws : List (List ℕ)) → l ≡ w ++ rest → Tail ws rest → l ≡ line (w ∷ ws) ++ 10 ∷ []
whole_line w l rest ws e t = e ∙ ap (λ r. w ++ r) t ∙ sym (append_assoc w (flat_map (λ w. 32 ∷ w) ws) (10 ∷ [])) ∙ ap (λ q. q ++ 10 ∷ []) (sym (join-cons w ws))
