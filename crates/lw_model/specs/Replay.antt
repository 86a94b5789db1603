-- The answers of an image's requests, run one by one. All looks back over the list of requests; no image is kept.
use Rattle.std.specs.Prelude.{ℕ, ◌+◌, ◌-◌, ◌*◌, ◌%◌, nat_lt, nat_le, Bool, true, false, cond, ◌&&◌, List, [], ◌∷◌, map, length, Option, Some, None, option_and_then, slice_index, count_by}
use Rattle.std.specs.List.{range_with_len}
use Rattle.lw_model.specs.declared.script.Op.{Op}
use Rattle.lw_model.specs.declared.script.Op.TheVariants as op
use Rattle.lw_model.specs.declared.record.Replied.{Replied}
use Rattle.lw_model.specs.declared.record.Replied.TheVariants as replied

-- a write of `count` blocks from `start` on covers byte x
abbrev pub covers : ℕ → ℕ → ℕ → ℕ → Bool
covers block start count x = nat_le (start * block) x && nat_lt x ((start + count) * block)

-- byte x after the requests of `past`, the latest first: that of the last write that covers it, and 0 where none does
abbrev pub byte_after : ℕ → List (Option Op) → ℕ → ℕ
byte_after block [] x = 0
byte_after block (o ∷ past) x = elim o [
  | Some o' ↦ elim o' [ op.Write d start count pattern ↦ cond (covers block start count x) (slice_index pattern ((x - start * block) % length pattern)) (byte_after block past x) | _ ↦ byte_after block past x ]
  | None ↦ byte_after block past x
]

abbrev pub is_write : Option Op → Bool
is_write None = false
is_write (Some o) = elim o [ op.Write d start count pattern ↦ true | _ ↦ false ]

-- the bytes of `count` blocks from `start` on, after the requests of `past`
abbrev pub bytes_after : ℕ → List (Option Op) → ℕ → ℕ → List ℕ
bytes_after block past start count = map (byte_after block past) (range_with_len (start * block) (count * block))

-- the answer of one request after those of `past`
abbrev pub answer_after : ℕ → List (Option Op) → Op → Option Replied
answer_after block past (op.Write d start count pattern) = Some replied.Ok
answer_after block past (op.Read d start count) = Some (replied.Bytes (bytes_after block past start count))
answer_after block past (op.Flush d) = Some (replied.Writes (count_by is_write past))
answer_after block past _ = None

-- the answers of all requests, in order
abbrev pub replay : ℕ → List (Option Op) → List (Option Op) → List (Option Replied)
replay block past [] = []
replay block past (o ∷ rest) = option_and_then (answer_after block past) o ∷ replay block (o ∷ past) rest
