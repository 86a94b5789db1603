-- The parts of a line, read from its front. A line here ends with its line feed.
use Rattle.std.specs.Prelude.{ℕ, Bool, ◌&&◌, ◌||◌, not, nat_le, nat_lt, ◌==◌, List, [], ◌∷◌, length, take, drop, position, bytes_eq, slice_index, if◌then◌else◌, Option, Some, None, unwrap_or, option_and_then}
use Rattle.lw_model.specs.ScriptRules.{is_within}
use Rattle.lw_base.specs.TextLines.{value_from}

-- the bytes behind a text, where they begin with it
abbrev pub after : List ℕ → List ℕ → Option (List ℕ)
after text bs = if bytes_eq (take (length text) bs) text then Some (drop (length text) bs) else None

abbrev pub is_digit : ℕ → Bool
is_digit b = is_within 48 57 b

abbrev pub is_no_digit : ℕ → Bool
is_no_digit b = not (is_digit b)

-- the place of the first byte that passes, or the number of bytes
abbrev pub place_of_first : (ℕ → Bool) → List ℕ → ℕ
place_of_first test bs = unwrap_or (position test bs) (length bs)

-- how many digits bytes begin with
abbrev pub digit_count : List ℕ → ℕ
digit_count bs = place_of_first is_no_digit bs

abbrev pub ends_word : ℕ → Bool
ends_word b = b == 32 || b == 10

-- how long the word is that bytes begin with
abbrev pub word_length : List ℕ → ℕ
word_length bs = place_of_first ends_word bs

-- a digit or more, and no zero before others
abbrev pub is_plain : List ℕ → Bool
is_plain ds = length ds == 1 || nat_lt 1 (length ds) && not (slice_index ds 0 == 48)

-- a number of at most `most` that bytes begin with, and the bytes behind it
abbrev pub number : ℕ → List ℕ → Option (ℕ × List ℕ)
number most bs =
    let count = digit_count bs in
    let value = value_from 0 (take count bs) in
    if is_plain (take count bs) && nat_le value most then Some (value, drop count bs) else None

-- the same behind a space
abbrev pub spaced : ℕ → List ℕ → Option (ℕ × List ℕ)
spaced most bs = option_and_then (number most) (after (32 ∷ []) bs)

-- a word of one byte or more behind a space, and the bytes behind it
abbrev pub word : List ℕ → Option (List ℕ × List ℕ)
word bs = option_and_then (λ rest. if nat_lt 0 (word_length rest) then Some (take (word_length rest) rest, drop (word_length rest) rest) else None) (after (32 ∷ []) bs)

-- nothing but the line feed is left
abbrev pub is_end : List ℕ → Bool
is_end bs = bytes_eq bs (10 ∷ [])
