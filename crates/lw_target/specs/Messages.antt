-- What the threads send each other, and what they have still to do for it.
use Rattle.std.specs.Prelude.{ℕ, ◌≡◌, ◌<◌, ◌≤◌, ◌+◌, ◌*◌, Bool, true, List, length, sum_by}
use Rattle.std.specs.List.{All}
use Rattle.lw_base.specs.declared.message.What.{What}
use Rattle.lw_base.specs.declared.message.What.TheVariants as what
use Rattle.lw_base.specs.declared.message.Tag.{Tag}
use Rattle.lw_model.specs.declared.script.Op.{Op}
use Rattle.lw_model.specs.declared.script.ImageOf.{ImageOf}
use Rattle.lw_model.specs.declared.script.Op.TheVariants as op
use Rattle.lw_model.specs.Printable.{has_a_line, has_bytes}
use Rattle.lw_image.specs.Image.{Contents}
use Rattle.lw_target.specs.declared.mail.Mail.{Mail}
use Rattle.lw_target.specs.declared.mail.Load.{Load}
use Rattle.lw_target.specs.declared.mail.Load.TheVariants as load
use Rattle.lw_target.specs.declared.acts.Outgoing.{Outgoing}

-- a call's asked sends, and how many messages the thread had run before
pub record Asked : Type 0 where
  pub ran : ℕ
  pub sends : List Outgoing

-- what waits for one thread, how many messages each thread has sent it, and the tags of those that it ran
pub record Inbox : Type 0 where
  pub waiting : List Mail
  pub sent : List ℕ
  pub ran : List Tag

-- what an op hands to the owner of its image
abbrev pub operands : Op → Load
operands (op.Write d start count pattern) = load.Write start count pattern
operands (op.Read d start count) = load.Read start count
operands _ = load.Nothing

-- a reply of bytes has some
abbrev pub carries_bytes : Load → Bool
carries_bytes (load.Replied answer) = has_bytes answer
carries_bytes _ = true

-- a message that has a line in a report, and whose reply has one there
pub record IsPrintable (w : What) (carried : Load) : Type 0 where
  pub line : has_a_line w ≡ true
  pub reply : carries_bytes carried ≡ true

-- how many blocks an image has, and how many bytes a block
pub record Extent : Type 0 where
  pub blocks : ℕ
  pub block : ℕ

abbrev pub extent_of : Contents → Extent
extent_of image = record { blocks = image.blocks; block = image.block }

-- the extent that a script gives an image
abbrev pub stated_extent : ImageOf → Extent
stated_extent image = record { blocks = image.blocks; block = image.block }

-- what a request carries is a write within an image of this extent, or a read within it of at most 131,072 bytes
abbrev pub IsWithin : Extent → Load → Type 0
IsWithin extent (load.Write start count pattern) = (0 < count) × (start + count ≤ extent.blocks) × (0 < length pattern)
IsWithin extent (load.Read start count) = (0 < count) × (start + count ≤ extent.blocks) × (count * extent.block ≤ 131072)
IsWithin extent (load.Replied answer) = ⊥
IsWithin extent load.Nothing = ⊥

-- a message that the owner of such an image may run: a request is one within it
abbrev pub FitsImage : Extent → What → Load → Type 0
FitsImage extent (what.Request k) carried = IsWithin extent carried
FitsImage extent _ carried = Unit {0}

-- messages, sent and to be sent, that the owner of an image of this extent may run
abbrev pub AllFit : Extent → List Mail → Type 0
AllFit extent mails = All (λ m. FitsImage extent m.tag.what m.load) mails

abbrev pub AllMayGo : Extent → List Outgoing → Type 0
AllMayGo extent sends = All (λ s. FitsImage extent s.what s.load) sends

-- what a message costs to run: a request costs its reply too
abbrev pub weight : What → ℕ
weight (what.Request k) = 2
weight _ = 1

abbrev pub waiting_work : List Mail → ℕ
waiting_work mails = sum_by (λ m. weight m.tag.what) mails

abbrev pub asked_work : List Outgoing → ℕ
asked_work sends = sum_by (λ s. weight s.what) sends
