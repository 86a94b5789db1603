-- What a command reads of a source, and what a sink has taken of a text.
use Rattle.std.specs.Prelude.{◌≡◌, ◌+◌, ◌≤◌, ℕ, List, [], ◌++◌, length, take, drop, Option, Some, None}
use Rattle.lw_base.specs.Outside.{HasGiven}

-- the source has given what stands in the new bytes behind the old ones
abbrev pub GivesMore : Option (List ℕ) → List ℕ → List ℕ → Option (List ℕ) → Type 0
GivesMore before old new after = (more : List ℕ) × (new ≡ old ++ more) × HasGiven before more after

-- the source has given at most so many bytes
abbrev pub GivesAtMost : ℕ → Option (List ℕ) → Option (List ℕ) → Type 0
GivesAtMost most before after = (bytes : List ℕ) × (length bytes ≤ most) × HasGiven before bytes after

-- however reading ended, the source has given at most its first bytes up to one past the limit; with no limit it is unread
abbrev pub IsReadWithin : Option ℕ → Option (List ℕ) → Option (List ℕ) → Type 0 → Type 0
IsReadWithin None before after unread = unread
IsReadWithin (Some limit) before after unread = GivesAtMost (limit + 1) before after

-- the bytes read under a limit of a source that had these left: all of them, or the first ones up to one past the limit
abbrev pub bytes_read : ℕ → List ℕ → List ℕ
bytes_read limit left = take (limit + 1) left

-- a source that told what it had left was read so, and what it has left now is the rest
abbrev pub IsReadUpTo : ℕ → Option (List ℕ) → List ℕ → Option (List ℕ) → Type 0
IsReadUpTo limit None bytes after = length bytes ≤ limit + 1
IsReadUpTo limit (Some left) bytes after = (bytes ≡ bytes_read limit left) × (after ≡ Some (drop (limit + 1) left))

-- the bytes are all that the source had left, and now it has nothing left
abbrev pub IsReadToEnd : Option (List ℕ) → List ℕ → Option (List ℕ) → Type 0
IsReadToEnd None bytes after = Unit {0}
IsReadToEnd (Some left) bytes after = (bytes ≡ left) × (after ≡ Some [])

-- the sink has taken the first bytes of a text
abbrev pub HasTakenPart : Option (List ℕ) → List ℕ → Option (List ℕ) → Type 0
HasTakenPart None text after = Unit {0}
HasTakenPart (Some held) text after = (n : ℕ) × (after ≡ Some (held ++ take n text))
