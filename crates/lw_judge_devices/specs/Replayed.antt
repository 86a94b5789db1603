-- An image behind some of the requests of its journal, told by the last write of each block.
use Rattle.std.specs.Prelude.{ℕ, zero, suc, ◌+◌, ◌<◌, ◌≤◌, ◌≡◌, nat_lt, nat_le, cond, ◌&&◌, List, [], ◌∷◌, length, Option, Some, None, option_map, slice_get, slice_index, count_by}
use Rattle.lw_model.specs.declared.script.Op.{Op}
use Rattle.lw_model.specs.declared.script.Op.TheVariants as op
use Rattle.lw_model.specs.Replay.{is_write}
use Rattle.lw_judge_devices.specs.declared.replay.Written.{Written}
use Rattle.lw_judge_devices.specs.declared.replay.Replay.{Replay}

-- the first block and the pattern of the last write that covers block b, after the requests of `past`, the latest first
abbrev pub last_write : List (Option Op) → ℕ → Option (ℕ × List ℕ)
last_write [] b = None
last_write (o ∷ past) b = elim o [
  | Some o' ↦ elim o' [ op.Write d start count pattern ↦ cond (nat_le start b && nat_lt b (start + count)) (Some (start, pattern)) (last_write past b) | _ ↦ last_write past b ]
  | None ↦ last_write past b
]

-- the write of this number, from 1; number 0 is none
abbrev pub write_of : List Written → ℕ → Option Written
write_of ws zero = None
write_of ws (suc i) = slice_get ws i

-- a write's first block and its pattern
abbrev pub range_of : Written → ℕ × List ℕ
range_of w = (w.start, w.pattern.now)

-- the image behind the requests of `past`, the latest first
pub record IsAfter (past : List (Option Op)) (image : Replay) : Type 0 where
  pub last : (b : ℕ) → b < length image.last.items → option_map range_of (write_of image.writes.items (slice_index image.last.items b)) ≡ last_write past b
  pub numbers : (b : ℕ) → b < length image.last.items → slice_index image.last.items b ≤ length image.writes.items
  pub writes : length image.writes.items ≡ count_by is_write past

-- a read is of blocks below this number
abbrev pub ReadsWithin : ℕ → Op → Type 0
ReadsWithin blocks (op.Read d start count) = start + count ≤ blocks
ReadsWithin blocks _ = Unit {0}
