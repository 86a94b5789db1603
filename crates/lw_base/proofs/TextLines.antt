-- A text's first line, the lines behind it, and one digit more.
use Rattle.std.proofs.Common.{◌≡◌, ℕ, suc, ◌+◌, ◌-◌, ◌<◌, ◌==◌, Bool, true, false, cond, List, [], ◌∷◌, length, take, take_all, get_or, ◌*◌, ◌++◌, length-drop, drop, Some, None, not, nat_lt, ◌≤◌, inl, inr, refl, sym, ap, ap₂, ◌∙◌, arith}
use Rattle.std.specs.List.{position_or_len}
use Rattle.std.proofs.lemmas.List.{take_more}
use Rattle.std.proofs.lemmas.Bool.{ne_eqb, lt-ltb, le-ltb, cases_lt}
use Rattle.lw_base.specs.TextLines.{is_feed, put_on, pieces, line_length, is_nil, value_from}

-- the length of a line with so many bytes before its line feed, of so many that are left
abbrev length_at : ℕ → ℕ → ℕ
length_at n m = elim (cond (nat_lt n m) (Some n) None) [ Some i ↦ i + 1 | None ↦ m ]

length_inside : (n m : ℕ) → n < m → length_at n m ≡ n + 1
length_inside n m h = ap (λ b. elim (cond b (Some n) None) as (λ _. ℕ) [ Some i ↦ i + 1 | None ↦ m ]) (lt-ltb n m h)

length_outside : (n m : ℕ) → m ≤ n → length_at n m ≡ m
length_outside n m h = ap (λ b. elim (cond b (Some n) None) as (λ _. ℕ) [ Some i ↦ i + 1 | None ↦ m ]) (le-ltb n m h)

length_more : (n m : ℕ) → length_at (1 + n) (suc m) ≡ suc (length_at n m)
length_more n m = elim (cases_lt n m) [
  | inl lt ↦ length_inside (1 + n) (suc m) (omega (arith, lt)) ∙ omega (arith, length_inside n m lt)
  | inr ge ↦ length_outside (1 + n) (suc m) (omega (arith, ge)) ∙ ap suc (sym (length_outside n m ge))
]

line_length-cons : (b : ℕ) (bs : List ℕ) → is_feed b ≡ false → line_length (b ∷ bs) ≡ suc (line_length bs)
line_length-cons b bs e =
    ap (λ t. length_at (cond (not t) (1 + position_or_len is_feed bs) 0) (suc (length bs))) e ∙ length_more (position_or_len is_feed bs) (length bs)

line_length-feed : (b : ℕ) (bs : List ℕ) → is_feed b ≡ true → line_length (b ∷ bs) ≡ 1
line_length-feed b bs e =
    ap (λ t. length_at (cond (not t) (1 + position_or_len is_feed bs) 0) (suc (length bs))) e ∙ length_inside 0 (suc (length bs)) (omega arith)

abbrev Splits : List ℕ → Type 0
Splits bs = pieces bs ≡ take (line_length bs) bs ∷ pieces (drop (line_length bs) bs)

pub pieces_first : (text : List ℕ) → 0 < length text → pieces text ≡ take (line_length text) text ∷ pieces (drop (line_length text) text)
pieces_first [] h = absurd (omega arith)
pieces_first (b ∷ bs) h = at (λ some. pieces_first bs some) (is_feed b) refl
  where
    rest : (cs : List ℕ) → (0 < length cs → Splits cs) → put_on b (pieces cs) ≡ take (suc (line_length cs)) (b ∷ cs) ∷ pieces (drop (suc (line_length cs)) (b ∷ cs))
    rest [] first = refl
    rest (c ∷ cs) first = ap (put_on b) (first (omega arith))

    at : (0 < length bs → Splits bs) → (t : Bool) → is_feed b ≡ t → Splits (b ∷ bs)
    at first true e =
        ap (λ t. cond t ((b ∷ []) ∷ pieces bs) (put_on b (pieces bs))) e
        ∙ sym (ap (λ n. take n (b ∷ bs) ∷ pieces (drop n (b ∷ bs))) (line_length-feed b bs e))
    at first false e =
        ap (λ t. cond t ((b ∷ []) ∷ pieces bs) (put_on b (pieces bs))) e
        ∙ rest bs first
        ∙ sym (ap (λ n. take n (b ∷ bs) ∷ pieces (drop n (b ∷ bs))) (line_length-cons b bs e))

-- the same, with the end of the line given
pub first_is : (text : List ℕ) (end : ℕ) → 0 < length text → end ≡ line_length text → pieces text ≡ take end text ∷ drop 1 (pieces text)
first_is text end h e =
    pieces_first text h
    ∙ ap₂ (λ n ps. take n text ∷ ps) (sym e) (sym (ap (drop 1) (pieces_first text h)))

-- the lines behind the first, of what is left as a slice
pub rest_is : (text : List ℕ) (end : ℕ) → 0 < length text → end ≡ line_length text → pieces (take (length text - end) (drop end text)) ≡ drop 1 (pieces text)
rest_is text end h e =
    ap pieces (take_all (length text - end) (drop end text) (omega (arith, length-drop end text)))
    ∙ ap (λ n. pieces (drop n text)) e
    ∙ sym (ap (drop 1) (pieces_first text h))

pub none_left : (text : List ℕ) → (length text == 0) ≡ is_nil (pieces text)
none_left [] = refl
none_left (b ∷ bs) = ne_eqb (length (b ∷ bs)) 0 (omega arith) ∙ sym (ap is_nil (pieces_first (b ∷ bs) (omega arith)))

pub some_left : (text : List ℕ) → 0 < length (pieces text) → 0 < length text
some_left [] h = h
some_left (b ∷ bs) h = omega arith

pub value_from_push : (n : ℕ) (ds : List ℕ) (d : ℕ) → value_from n (ds ++ d ∷ []) ≡ value_from n ds * 10 + (d - 48)
value_from_push n [] d = refl
value_from_push n (b ∷ ds) d = value_from_push (n * 10 + (b - 48)) ds d

pub value_more : (ds : List ℕ) (i : ℕ) → i < length ds → value_from 0 (take (i + 1) ds) ≡ value_from 0 (take i ds) * 10 + (get_or ds i 0 - 48)
value_more ds i h = ap (value_from 0) (take_more ds i 0 h) ∙ value_from_push 0 (take i ds) (get_or ds i 0)
