-- Hexadecimal digits without capitals are what their bytes are written with.
use Rattle.std.proofs.Common.{◌≡◌, ℕ, ◌+◌, ◌-◌, ◌*◌, ◌/◌, ◌%◌, ◌<◌, ◌≤◌, ◌==◌, nat_le, Bool, true, false, ◌&&◌, not, if◌then◌else◌, List, [], ◌∷◌, length, Option, Some, None, Result, Ok, Err, refl, sym, ap, ap₂, ◌∙◌, arith}
use Rattle.std.specs.Prelude.{slice_index}
use Rattle.std.specs.List.{list_all}
use Rattle.std.proofs.lemmas.Bool.{and_parts, and_from, leb-true, le-leb, false≢true}
use Rattle.std.proofs.lemmas.Bool.Decides.{Decides-eqb}
use Rattle.lw_base.proofs.Lists.{some_same}
use Rattle.hex.specs.declared.FromHexError.{FromHexError}
use Rattle.hex.specs.Hex.{lower_digits, encode_with, encode_lower, hex_digit_value, digit_or_error, value_at, pair_value, decode_pairs, decode_of, ◌>>=◌}
use Rattle.lw_model.proofs.Passing.{all_in_range}
use Rattle.lw_report_lines.specs.LineKinds.{is_no_capital}

-- the digits at the places below ten, and from ten on
low_digit : (v : ℕ) → v < 10 → slice_index lower_digits v ≡ v + 48
low_digit v h = (all_in_range (λ k. slice_index lower_digits k == k + 48) (λ k. slice_index lower_digits k ≡ k + 48) 0 10 (λ k. Decides-eqb (slice_index lower_digits k) (k + 48))).0 refl v (omega arith) (omega arith)

high_digit : (v : ℕ) → 10 ≤ v → v < 16 → slice_index lower_digits v ≡ v + 87
high_digit v low high = (all_in_range (λ k. slice_index lower_digits k == k + 87) (λ k. slice_index lower_digits k ≡ k + 87) 10 6 (λ k. Decides-eqb (slice_index lower_digits k) (k + 87))).0 refl v low (omega arith)

-- a digit that is no capital is the one at its value
digit_is : (c v : ℕ) → is_no_capital c ≡ true → hex_digit_value c ≡ Some v → (v < 16) × (slice_index lower_digits v ≡ c)
digit_is c v small e = at (nat_le 65 c && nat_le c 70) (nat_le 97 c && nat_le c 102) (nat_le 48 c && nat_le c 57) refl refl refl e
  where
    at : (a b d : Bool) → (nat_le 65 c && nat_le c 70) ≡ a → (nat_le 97 c && nat_le c 102) ≡ b → (nat_le 48 c && nat_le c 57) ≡ d
        → ◌≡◌ {A = Option ℕ} (if a then Some (c - 55) else (if b then Some (c - 87) else (if d then Some (c - 48) else None))) (Some v) → (v < 16) × (slice_index lower_digits v ≡ c)
    at true b d is_a is_b is_d e =
        let k = and_parts (nat_le 65 c) (nat_le c 70) is_a in
        let capital : (nat_le 65 c && nat_le c 90) ≡ true = and_from (nat_le 65 c) (nat_le c 90) k.0 (le-leb c 90 (omega (arith, leb-true c 70 k.1))) in
        absurd (false≢true (sym (ap not capital) ∙ small))
    at false true d is_a is_b is_d e =
        let k = and_parts (nat_le 97 c) (nat_le c 102) is_b in
        let low = leb-true 97 c k.0 in
        let high = leb-true c 102 k.1 in
        let is = some_same {x = c - 87} {y = v} e in
        (omega (arith, is, low, high), high_digit v (omega (arith, is, low, high)) (omega (arith, is, low, high)) ∙ omega (arith, is, low, high))
    at false false true is_a is_b is_d e =
        let k = and_parts (nat_le 48 c) (nat_le c 57) is_d in
        let low = leb-true 48 c k.0 in
        let high = leb-true c 57 k.1 in
        let is = some_same {x = c - 48} {y = v} e in
        (omega (arith, is, low, high), low_digit v (omega (arith, is, low, high)) ∙ omega (arith, is, low, high))
    at false false false is_a is_b is_d e = let wrong : None ≡ Some v = e in cc

hex_parts : {A B : Type 0} (r : Result A FromHexError) (f : A → Result B FromHexError) (b : B) → r >>= f ≡ Ok b → (a : A) × (r ≡ Ok a) × (f a ≡ Ok b)
hex_parts (Ok a) f b e = (a, refl, e)
hex_parts (Err x) f b e = cc

value_is : (c i v : ℕ) → value_at c i ≡ Ok v → hex_digit_value c ≡ Some v
value_is c i v e = at (hex_digit_value c) e
  where
    at : (o : Option ℕ) → digit_or_error c i o ≡ Ok v → o ≡ Some v
    at (Some w) e = ap Some (ok_is w e)
      where
        ok_is : (w : ℕ) → ◌≡◌ {A = Result ℕ FromHexError} (Ok w) (Ok v) → w ≡ v
        ok_is w e = cc
    at None e = cc

ok_is : {A : Type 0} {x y : A} → ◌≡◌ {A = Result A FromHexError} (Ok x) (Ok y) → x ≡ y
ok_is e = cc

pairs_same : (i : ℕ) (s bs : List ℕ) → list_all is_no_capital s ≡ true → decode_pairs i s ≡ Ok bs → encode_lower bs ≡ s
unfolding decode_pairs encode_with
pairs_same i [] bs small e = ap encode_lower (sym (ok_is e))
pairs_same i (a ∷ []) bs small e = cc
pairs_same i (a ∷ b ∷ rest) bs small e =
    let p = hex_parts (pair_value a b i) _ bs e in
    let h = hex_parts (value_at a i) _ p.0 p.1 in
    let l = hex_parts (value_at b (i + 1)) _ p.0 h.2 in
    let r = hex_parts (decode_pairs (i + 2) rest) _ bs p.2 in
    let sa = and_parts (is_no_capital a) (is_no_capital b && list_all is_no_capital rest) small in
    let sb = and_parts (is_no_capital b) (list_all is_no_capital rest) sa.1 in
    let da = digit_is a h.0 sa.0 (value_is a i h.0 h.1) in
    let db = digit_is b l.0 sb.0 (value_is b (i + 1) l.0 l.1) in
    let byte : h.0 * 16 + l.0 ≡ p.0 = ok_is l.2 in
    let high : p.0 / 16 ≡ h.0 = omega (arith, byte, db.0) in
    let low : p.0 % 16 ≡ l.0 = omega (arith, byte, db.0) in
    ap encode_lower (sym (ok_is r.2))
    ∙ ap₂ (λ x y. slice_index lower_digits x ∷ slice_index lower_digits y ∷ encode_lower r.0) high low
    ∙ ap₂ (λ x y. x ∷ y ∷ encode_lower r.0) da.1 db.1
    ∙ ap (λ q. a ∷ b ∷ q) (pairs_same (i + 2) rest r.0 sb.1 r.1)

pub lower_same : (s bs : List ℕ) → list_all is_no_capital s ≡ true → decode_of s ≡ Ok bs → encode_lower bs ≡ s
lower_same s bs small e = at (length s % 2 == 1) e
  where
    at : (b : Bool) → ◌≡◌ {A = Result (List ℕ) FromHexError} (if b then Err (FromHexError.OddLength) else decode_pairs 0 s) (Ok bs) → encode_lower bs ≡ s
    at true e = cc
    at false e = pairs_same 0 s bs small e
