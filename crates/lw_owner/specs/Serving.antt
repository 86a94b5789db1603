-- What an owner is, and what it answers.
use Rattle.std.specs.Prelude.{ℕ, ◌≡◌, ◌*◌, ◌<◌, ◌≤◌, List, ◌∷◌, length, Option, Some}
use Rattle.std.specs.Arc.{arc_value}
use Rattle.lw_base.specs.declared.message.What.TheVariants as what
use Rattle.lw_model.specs.declared.script.Op.{Op}
use Rattle.lw_model.specs.declared.script.Op.TheVariants as op
use Rattle.lw_model.specs.declared.record.Replied.{Replied}
use Rattle.lw_model.specs.ScriptRules.{block_at, blocks_at}
use Rattle.lw_model.specs.Threads.{owner_of}
use Rattle.lw_model.specs.Replay.{answer_after}
use Rattle.lw_pool.specs.Sizes.{size_of}
use Rattle.lw_pool.specs.PoolEnds.{BufferEnd}
use Rattle.lw_image.specs.Image.{Contents, HasRange, IsAfter}
use Rattle.lw_device.specs.Rows.{new_row}
use Rattle.lw_channel.specs.Channels.{new_set}
use Rattle.lw_whole.specs.Letters.{answered}
use Rattle.lw_mail.specs.Runs.{Run}
use Rattle.lw_mail.specs.Saying.{what_of, load_of}
use Rattle.lw_mail.specs.declared.mail.Content.{Content}
use Rattle.lw_mail.specs.declared.mail.Content.TheVariants as content
use Rattle.lw_owner.specs.declared.owner.Owner.{Owner}

-- the owner of an image of this run: it shares the run's script, is the thread that owns the image, the image has the size that
-- the script says, and its set is that of a row that was not used
pub record IsOwnerOf (r : Run) (b : Owner) : Type 0 where
  pub script : arc_value b.script ≡ r.script
  pub device : ℕ
  pub is_image : device < length r.script.images
  pub thread : b.thread ≡ owner_of r.script device
  pub block : b.image.block ≡ block_at r.script device
  pub blocks : b.image.blocks ≡ blocks_at r.script device
  pub devices : length r.registry ≡ length r.script.images
  pub set : b.set ≡ new_set (new_row r.registry b.thread)

-- whatever requests made the image, the answer is the one that this op has behind them, and the image is then what the op makes
-- of it
abbrev pub AnswersAs : Contents → Contents → Op → Replied → Type 0
AnswersAs old new o answer = (past : List (Option Op)) → IsAfter old past → (answer_after old.block past o ≡ Some answer) × IsAfter new (Some o ∷ past)

-- this is the reply to the op k, which is o
pub record IsReply (old new : Contents) (o : Op) (k : ℕ) (c : Content) : Type 0 where
  pub answer : Replied
  pub what : what_of c ≡ what.Reply k
  pub load : load_of c ≡ answered answer
  pub answers : AnswersAs old new o answer

-- a write or a flush that the image can run
abbrev pub CanRun : Contents → Op → Type 0
CanRun image (op.Write d start count pattern) = HasRange image start count × (1 ≤ length pattern)
CanRun image (op.Flush d) = Unit {0}
CanRun image _ = ⊥

-- a read that the image can run into the buffer
abbrev pub CanRead : Contents → BufferEnd → Op → Type 0
CanRead image b (op.Read d start count) = HasRange image start count × (count * image.block ≤ size_of b.class)
CanRead image b _ = ⊥

-- the buffer goes back with the reply to the op k, and is filled with so many bytes as were read
pub record GoesBack (k bytes : ℕ) (b : BufferEnd) (c : Content) : Type 0 where
  pub back : BufferEnd
  pub reply : c ≡ content.Filled k back
  pub queue : back.queue ≡ b.queue
  pub class : back.class ≡ b.class
  pub filled : back.filled ≡ bytes

abbrev pub ReadsInto : Contents → Op → ℕ → BufferEnd → Content → Type 0
ReadsInto image (op.Read d start count) k b c = GoesBack k (count * image.block) b c
ReadsInto image _ k b c = ⊥

-- a reply that takes no buffer back
abbrev pub IsPlain : Content → Type 0
IsPlain (content.Written k) = Unit {0}
IsPlain (content.Flushed k writes) = Unit {0}
IsPlain _ = ⊥
