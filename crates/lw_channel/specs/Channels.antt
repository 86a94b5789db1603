-- What a thread keeps of the devices that it uses. The words are those of a client's lines: a get gives the channel or adds
-- a reference, a put takes one away, all are gone at the close, and each last put has a message that is pending until it runs.
use Rattle.std.specs.Prelude.{◌≡◌, ℕ, ◌+◌, ◌-◌, ◌<◌, ◌≤◌, ◌==◌, ◌&&◌, Bool, true, false, Option, Some, None, is_some, if◌then◌else◌, List, length, slice_index_or, slice_set, replicate, All}
use Rattle.lw_latch.specs.DeviceWord.{most_gives}
use Rattle.lw_latch.specs.DeviceEnds.{SeatEnd}
use Rattle.lw_device.specs.Rows.{Row, no_seat, with_seat, both_rows, seat_not_given, seat_looked, seat_found}
use Rattle.lw_channel.specs.declared.channel.Channel.{Channel}

-- a thread's set of channels: its row of the registry, and what it keeps of each device
pub record Channels : Type 0 where
  pub row : Row
  pub channels : List Channel

-- what is kept of a device that nothing was asked of
abbrev pub no_channel : Channel
no_channel = record { ordinal = None; references = 0; pending = 0; submitted = 0; gets = 0 }

-- what is kept of a device, by its number
abbrev pub channel_of : Channels → ℕ → Channel
channel_of s device = slice_index_or s.channels device no_channel

-- whether a channel of the device stands
abbrev pub holds : Channels → ℕ → Bool
holds s device = is_some (channel_of s device).ordinal

-- how many requests were submitted on the channel that stands, 0 where none does
abbrev pub submitted_on : Channels → ℕ → ℕ
submitted_on s device = if holds s device then (channel_of s device).submitted else 0

-- no channel stands
abbrev pub IsEmpty : Channels → Type 0
IsEmpty s = All (λ k. k.ordinal ≡ None) s.channels

-- What each call makes of what is kept of a device.

-- a get that made the channel
abbrev pub channel_made : ℕ → Channel → Channel
channel_made ordinal k = record { ordinal = Some ordinal; references = k.references + 1; pending = k.pending; submitted = 0; gets = k.gets + 1 }

-- a get that found it standing
abbrev pub channel_shared : Channel → Channel
channel_shared k = record k { references = k.references + 1; gets = k.gets + 1 }

-- a get that found the device shut
abbrev pub channel_refused : Channel → Channel
channel_refused k = record k { gets = k.gets + 1 }

-- a put that left references, and one that gave the last one back
abbrev pub channel_counted : Channel → Channel
channel_counted k = record k { references = k.references - 1 }

abbrev pub channel_deferred : Channel → Channel
channel_deferred k = record k { references = k.references - 1; pending = k.pending + 1 }

-- all references were given back at once
abbrev pub channel_given_back : Channel → Channel
channel_given_back k = record k { references = 0; pending = k.pending + 1 }

-- whether a message behind a last put destroys the channel: no other is pending, and no reference is left
abbrev pub destroys : Channel → Bool
destroys k = k.pending == 1 && k.references == 0

-- what such a message leaves where it does not, and where it does
abbrev pub channel_kept : Channel → Channel
channel_kept k = record k { pending = k.pending - 1 }

abbrev pub channel_destroyed : Channel → Channel
channel_destroyed k = record k { ordinal = None; pending = k.pending - 1 }

-- a request was submitted
abbrev pub channel_submitted : Channel → Channel
channel_submitted k = record k { submitted = k.submitted + 1 }

-- What each call makes of a set: of what is kept of a device, of its seat in the row, or of both.

abbrev pub with_channel : Channels → ℕ → (Channel → Channel) → Channels
with_channel s device change = record s { channels = slice_set s.channels device (change (channel_of s device)) }

abbrev pub with_row : Channels → ℕ → (SeatEnd → SeatEnd) → Channels
with_row s device change = record s { row = with_seat s.row device change }

abbrev pub with_both : Channels → ℕ → (Channel → Channel) → (SeatEnd → SeatEnd) → Channels
with_both s device change_channel change_seat = with_row (with_channel s device change_channel) device change_seat

-- a refused get leaves in the seat that the device was found shut: by a give where no channel stood, by a look where one did
abbrev pub seat_refused : Option ℕ → SeatEnd → SeatEnd
seat_refused None e = seat_not_given e
seat_refused (Some ordinal) e = seat_found (seat_looked e)

-- the set of a row that was not used before
abbrev pub new_set : Row → Channels
new_set r = record { row = r; channels = replicate (length r.seats) no_channel }

-- what two sets keep together
abbrev pub both_sets : Channels → Channels → Channels
both_sets s t = record s { row = both_rows s.row t.row }

-- What a set keeps true.

-- of a device: the row holds a channel exactly where the set says that one stands, which is as long as a reference is left
-- or a message behind a last put is pending; and there were enough gets for all of these
pub record Agrees (k : Channel) (e : SeatEnd) : Type 0 where
  pub in_row : e.view.channel ≡ (if is_some k.ordinal then 1 else 0)
  pub stands : is_some k.ordinal ≡ true → 1 ≤ k.references + k.pending
  pub gone : is_some k.ordinal ≡ false → k.references + k.pending ≡ 0
  pub counted : k.references + k.pending ≤ k.gets
  pub gives : e.view.gives ≤ k.gets
  pub few : k.gets ≤ most_gives

-- of all devices
pub record AreAgreed (es : List SeatEnd) (ks : List Channel) : Type 0 where
  pub count : length ks ≡ length es
  pub each : (d : ℕ) → d < length es → Agrees (slice_index_or ks d no_channel) (slice_index_or es d no_seat)
