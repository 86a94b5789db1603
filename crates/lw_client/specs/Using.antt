-- What an op may take for granted.
use Rattle.std.specs.Prelude.{ℕ, ◌≡◌, ◌^◌, ◌<◌, ◌≤◌, true, length, Some}
use Rattle.std.specs.Arc.{arc_value}
use Rattle.lw_latch.specs.DeviceWord.{most_gives}
use Rattle.lw_model.specs.Threads.{owner_of}
use Rattle.lw_ops.specs.Free.{HasFree}
use Rattle.lw_poller.specs.Pollers.{times}
use Rattle.lw_device.specs.Rows.{seat_of}
use Rattle.lw_channel.specs.Channels.{Channels, channel_of}
use Rattle.lw_thread.specs.Acts.{ActsEnd}
use Rattle.lw_mail.specs.declared.mail.Mail.{Mail}
use Rattle.lw_client.specs.declared.client.Client.{Client}
use Rattle.lw_ops.specs.declared.task.Task.{Task}
use Rattle.lw_ops.specs.declared.task.Task.TheVariants as task
use Rattle.lw_client.specs.Clients.{use_of, active}

-- The client has its set, with this device of so many threads' run; there is room for one more line and one more of each count; and a
-- message may go to the image's owner and to the client itself.
pub record CanUse (threads d : ℕ) (b : Client) : Type 0 where
  pub set : Channels
  pub its : b.set ≡ Some set
  pub device : d < length set.row.seats
  pub uses : d < length b.uses
  pub gets : (channel_of set d).gets < most_gives
  pub submitted : (channel_of set d).submitted < 2 ^ 40
  pub lines : b.next < 200000
  pub puts : (use_of b d).puts < 200000
  pub requests : (use_of b d).requests < 200000
  pub mark : b.next < length b.unanswered
  pub images : d < 16
  pub clients : length (arc_value b.script).clients ≤ 64
  pub owner : owner_of (arc_value b.script) d < threads
  pub self : b.thread < threads

-- a poller's number is free, and the active poller is live
pub record IsFree (a : ActsEnd Mail) : Type 0 where
  pub free : HasFree a.pollers
  pub live : times active a.pollers ≡ 1

-- no visit of the device is under way
abbrev pub NoVisit : ℕ → Client → Type 0
NoVisit d b = (x : Channels) → b.set ≡ Some x → (seat_of x.row d).view.visit ≡ 0

-- the client has its set, with this device; where it owes the callback, its seat began
pub record MayCall (d : ℕ) (b : Client) : Type 0 where
  pub uses : d < length b.uses
  pub set : Channels
  pub its : (use_of b d).owes ≡ true → b.set ≡ Some set
  pub device : (use_of b d).owes ≡ true → d < length set.row.seats
  pub began : (use_of b d).owes ≡ true → (1 ≤ (seat_of set.row d).view.begun) × ((seat_of set.row d).began_by ≡ (seat_of set.row d).number)

-- the client has its set, and there is room for one more PutSelf of this device, to itself
pub record MayGive (threads d : ℕ) (b : Client) : Type 0 where
  pub set : Channels
  pub its : b.set ≡ Some set
  pub uses : d < length b.uses
  pub puts : (use_of b d).puts < 200000
  pub self : b.thread < threads

-- what each op may take for granted
abbrev pub MayDo : ActsEnd Mail → Client → Task → Type 0
MayDo a b (task.Get d) = CanUse a.threads d b
MayDo a b (task.Put d) = CanUse a.threads d b
MayDo a b (task.Ask d) = CanUse a.threads d b
MayDo a b (task.Read d class) = CanUse a.threads d b
MayDo a b (task.Wait ticks) = (1 ≤ ticks) × IsFree a
MayDo a b (task.Visit d) = CanUse a.threads d b × NoVisit d b
MayDo a b task.Each = (b.next < 200000) × (1 ≤ a.threads)
MayDo a b (task.Unregister d) = CanUse a.threads d b
