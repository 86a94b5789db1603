-- What an op on a set of channels is answered, and what it leaves there.
use Rattle.std.specs.Prelude.{◌≡◌, ℕ, ◌≤◌, None, Some}
use Rattle.lw_latch.specs.DeviceWord.{KnowsOpen, IsAbove}
use Rattle.lw_device.specs.Rows.{seat_of, seat_given, seat_usable, seat_began, seat_found}
use Rattle.lw_channel.specs.Channels.{Channels, channel_of, channel_made, channel_shared, channel_refused, channel_counted, channel_deferred, with_both, with_channel, with_row, seat_refused}
use Rattle.lw_model.specs.declared.record.Answer.{Answer}
use Rattle.lw_model.specs.declared.record.Answer.TheVariants as answer

-- a get: the channel was made or stood, where the device was found open; or the device was found shut
abbrev pub IsGot : ℕ → Channels → Channels → Answer → Type 0
IsGot d s t (answer.Given n) = ((channel_of s d).ordinal ≡ None) × (t ≡ with_both s d (channel_made n) (seat_given n)) × KnowsOpen (seat_of s.row d).view × IsAbove n (seat_of s.row d).view.ordinals
IsGot d s t (answer.Again n) = ((channel_of s d).ordinal ≡ Some n) × (t ≡ with_both s d channel_shared seat_usable) × KnowsOpen (seat_of s.row d).view
IsGot d s t answer.Shut = t ≡ with_both s d channel_refused (seat_refused (channel_of s d).ordinal)
IsGot d s t _ = ⊥

-- a put: references are left, or it was the last, or there is none
abbrev pub IsPut : ℕ → Channels → Channels → Answer → Type 0
IsPut d s t answer.Counted = (2 ≤ (channel_of s d).references) × (t ≡ with_channel s d channel_counted)
IsPut d s t answer.Deferred = ((channel_of s d).references ≡ 1) × (t ≡ with_channel s d channel_deferred)
IsPut d s t answer.NoChannel = ((channel_of s d).references ≡ 0) × (t ≡ s)
IsPut d s t _ = ⊥

-- an unregistration: it began, where the device was found open, behind so many channels; or the device was found shut
abbrev pub IsBegun : ℕ → Channels → Channels → Answer → Type 0
IsBegun d s t (answer.Began n) = (opens : ℕ) × (t ≡ with_row s d (seat_began n opens)) × KnowsOpen (seat_of s.row d).view × IsAbove n (seat_of s.row d).view.ordinals
IsBegun d s t answer.Already = t ≡ with_row s d seat_found
IsBegun d s t _ = ⊥
