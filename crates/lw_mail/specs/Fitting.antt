-- Which messages fit a receiver of a run. The sender that a message names is set when it is sent, so nothing here speaks of it: a
-- request says itself which client asks, and its owner compares the two.
use Rattle.std.specs.Prelude.{ℕ, ◌≡◌, ◌*◌, ◌<◌, ◌≤◌, true, nat_le, if◌then◌else◌, length, All, Option, Some}
use Rattle.lw_model.specs.declared.script.Script.{Script}
use Rattle.lw_model.specs.declared.script.Op.{Op}
use Rattle.lw_model.specs.declared.script.Op.TheVariants as op
use Rattle.lw_model.specs.Threads.{owner_of, op_at, thread_count}
use Rattle.lw_model.specs.ScriptRules.{block_at, is_in_image}
use Rattle.lw_pool.specs.declared.class.Class.{Class}
use Rattle.lw_pool.specs.declared.class.Class.TheVariants.{Small, Large}
use Rattle.lw_pool.specs.PoolEnds.{BufferEnd, IsOf}
use Rattle.lw_device.specs.Rows.{latches}
use Rattle.lw_channel.specs.Channels.{Channels, IsEmpty}
use Rattle.lw_visit.specs.Tokens.{Visit, Cast}
use Rattle.lw_mail.specs.Runs.{Run}
use Rattle.lw_mail.specs.declared.mail.Mail.{Mail}
use Rattle.lw_mail.specs.declared.mail.Content.{Content}
use Rattle.lw_mail.specs.declared.mail.Content.TheVariants as content

-- the class of the buffer that a read of so many bytes is lent
abbrev pub class_for : ℕ → Class
class_for bytes = if nat_le bytes 8192 then Small else Large

-- a request without a buffer: the op is a write or a flush on the receiver's image; a write's range lies in the image, is not
-- empty, and its pattern isn't either
abbrev pub MayAsk : Script → ℕ → Option Op → Type 0
MayAsk s to (Some (op.Write d start count pattern)) = (to ≡ owner_of s d) × (is_in_image s d start count ≡ true) × (1 ≤ length pattern)
MayAsk s to (Some (op.Flush d)) = to ≡ owner_of s d
MayAsk s to _ = ⊥

-- a buffer that is lent for so many bytes of the run's reads
pub record IsLent (r : Run) (bytes : ℕ) (b : BufferEnd) : Type 0 where
  pub of_pool : IsOf r.pool b
  pub class : b.class ≡ class_for bytes

-- a request with a buffer: the op is a read on the receiver's image, its range lies in the image and is not empty, and the
-- buffer is one for that read
abbrev pub MayRead : Run → ℕ → BufferEnd → Option Op → Type 0
MayRead r to b (Some (op.Read d start count)) = (to ≡ owner_of r.script d) × (is_in_image r.script d start count ≡ true) × IsLent r (count * block_at r.script d) b
MayRead r to b _ = ⊥

-- a buffer that comes back: the op is a read, the buffer is the one for it, and all bytes of the range are filled
abbrev pub ComesBack : Run → BufferEnd → Option Op → Type 0
ComesBack r b (Some (op.Read d start count)) = IsLent r (count * block_at r.script d) b × (b.filled ≡ count * block_at r.script d)
ComesBack r b _ = ⊥

-- a token was made for all threads, by one of them, on a device that there is
pub record IsVisit (r : Run) (x : Visit) : Type 0 where
  pub threads : x.threads ≡ thread_count r.script
  pub origin : x.origin < thread_count r.script
  pub device : x.device < length r.script.images

pub record IsCast (r : Run) (x : Cast) : Type 0 where
  pub threads : x.threads ≡ thread_count r.script
  pub origin : x.origin < thread_count r.script

-- a set that the app can take in: of the run's registry, with no channel and no visit, with each device fired that it began, and its
-- seats stand for one thread alone
pub record MayGoIn (r : Run) (x : Channels) : Type 0 where
  pub registry : latches x.row ≡ r.registry
  pub empty : IsEmpty x
  pub free : All (λ e. (e.view.visit ≡ 0) × (e.view.begun ≤ e.view.fired)) x.row.seats
  pub alone : All (λ e. e.view.seats ≡ 1) x.row.seats

-- a token on its way goes to its receiver; one that is complete comes to its origin
abbrev pub Fits : ℕ → Run → Content → Type 0
Fits to r (content.Request client k) = MayAsk r.script to (op_at r.script client k)
Fits to r (content.Read client k buffer) = MayRead r to buffer (op_at r.script client k)
Fits to r (content.Filled k buffer) = ComesBack r buffer (op_at r.script to k)
Fits to r (content.Visit token) = IsVisit r token.value × (token.value.goes_to ≡ to) × (to < thread_count r.script)
Fits to r (content.Visited token) = IsVisit r token.value × (token.value.goes_to ≡ thread_count r.script) × (token.value.origin ≡ to)
Fits to r (content.Cast token) = IsCast r token.value × (token.value.goes_to ≡ to) × (to < thread_count r.script)
Fits to r (content.Casted token) = IsCast r token.value × (token.value.goes_to ≡ thread_count r.script) × (token.value.origin ≡ to)
Fits to r (content.Done set) = MayGoIn r set.value
Fits to r _ = Unit {0}

-- which messages fit a receiver of a run
abbrev pub fits_mail : ℕ → Run → Mail → Type 0
fits_mail to r m = Fits to r m.content
