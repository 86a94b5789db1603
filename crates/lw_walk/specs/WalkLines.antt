-- A text as its lines, and the parts of a line, read from its front. A line here ends with its line feed.
use Rattle.std.specs.Prelude.{ℕ, ◌+◌, Bool, ◌&&◌, ◌||◌, not, nat_le, nat_lt, ◌==◌, List, [], ◌∷◌, length, take, drop, position, bytes_eq, slice_index, if◌then◌else◌, Option, Some, None, unwrap_or, option_and_then}
use Rattle.lw_base.specs.TextLines.{value_from}

-- ---- lines

-- the lines that are left, and the number of the first
pub record Left : Type 0 where
  pub line : ℕ
  pub lines : List (List ℕ)

-- ---- the parts of a line

-- the bytes behind a text, where they begin with it
abbrev pub after_text : List ℕ → List ℕ → Option (List ℕ)
after_text text bs = if bytes_eq (take (length text) bs) text then Some (drop (length text) bs) else None

abbrev pub is_digit : ℕ → Bool
is_digit b = nat_le 48 b && nat_le b 57

abbrev pub is_no_digit : ℕ → Bool
is_no_digit b = not (is_digit b)

-- how many digits bytes begin with
abbrev pub digit_count : List ℕ → ℕ
digit_count bs = unwrap_or (position is_no_digit bs) (length bs)

-- a digit or more, and no zero before others
abbrev pub is_plain : List ℕ → Bool
is_plain ds = length ds == 1 || nat_lt 1 (length ds) && not (slice_index ds 0 == 48)

-- a number of 32 bits that bytes begin with, and the bytes behind it
abbrev pub number : List ℕ → Option (ℕ × List ℕ)
number bs =
    let count = digit_count bs in
    let value = value_from 0 (take count bs) in
    if is_plain (take count bs) && nat_le value 4294967295 then Some (value, drop count bs) else None

-- the same behind a space
abbrev pub spaced : List ℕ → Option (ℕ × List ℕ)
spaced bs = option_and_then number (after_text (32 ∷ []) bs)

-- nothing but the line feed is left
abbrev pub is_end : List ℕ → Bool
is_end bs = bytes_eq bs (10 ∷ [])

-- the first line that is left, where it is of a kind
abbrev pub taken : {X : Type 0} → (List ℕ → Option X) → Left → Option X × Left
taken f s = elim s.lines [
  | [] ↦ (None, s)
  | l ∷ ls ↦ elim (f l) [ Some x ↦ (Some x, record { line = s.line + 1; lines = ls }) | None ↦ (None, s) ]
]
