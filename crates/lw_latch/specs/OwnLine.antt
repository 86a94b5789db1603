-- Where the word of a latch stands in its table, so that it lies alone on its cache line.
use Rattle.std.specs.Prelude.{ℕ, List, replicate, slice_set}

-- how many words the table has
abbrev pub table_words : ℕ
table_words = 16

-- which of them is the latch's
abbrev pub latch_word : ℕ
latch_word = 8

-- the words of the table: the latch's has unused ones before and behind it, so that what others write next to the table
-- never lies on its cache line
abbrev pub alone : ℕ → List ℕ
alone word = slice_set (replicate table_words 0) latch_word word
