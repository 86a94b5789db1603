-- An image, and what the requests that it has run make of it.
use Rattle.std.specs.Prelude.{ℕ, ◌≡◌, ◌+◌, ◌<◌, ◌≤◌, List, length, Option, slice_index, count_by}
use Rattle.lw_model.specs.declared.script.Op.{Op}
use Rattle.lw_model.specs.Replay.{byte_after, is_write}

-- the bytes of `blocks` blocks of `block` bytes, and how many writes made them
pub record Contents : Type 0 where
  pub block : ℕ
  pub blocks : ℕ
  pub bytes : List ℕ
  pub writes : ℕ

-- `count` blocks from `start` on stand in the image
abbrev pub HasRange : Contents → ℕ → ℕ → Type 0
HasRange image start count = start + count ≤ image.blocks

-- two images are of one size
abbrev pub SameSize : Contents → Contents → Type 0
SameSize old new = (new.block ≡ old.block) × (new.blocks ≡ old.blocks)

-- the image is what the requests of `past`, the latest first, make of zeros
pub record IsAfter (image : Contents) (past : List (Option Op)) : Type 0 where
  pub bytes : (x : ℕ) → x < length image.bytes → slice_index image.bytes x ≡ byte_after image.block past x
  pub writes : image.writes ≡ count_by is_write past
