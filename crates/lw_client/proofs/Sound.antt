-- A set of channels of which one device changes stays the client's.
use Rattle.std.proofs.Common.{◌≡◌, ◌≢◌, ℕ, ◌+◌, ◌<◌, ◌≤◌, List, length, Option, Some, None, refl, sym, subst, arith, length-set}
use Rattle.lw_latch.specs.DeviceEnds.{SeatEnd}
use Rattle.lw_model.specs.declared.record.Answer.{Answer}
use Rattle.lw_model.specs.declared.record.Answer.TheVariants as answer
use Rattle.lw_device.specs.Rows.{no_seat, seat_of, seat_given, seat_usable}
use Rattle.lw_device.proofs.RowLaws.{latches-with_seat}
use Rattle.lw_channel.specs.declared.channel.Channel.{Channel}
use Rattle.lw_channel.specs.Channels.{Channels, no_channel, channel_of, with_channel, with_row, with_both, channel_made, channel_shared, channel_refused, seat_refused}
use Rattle.lw_mail.specs.Runs.{Run}
use Rattle.lw_client.specs.declared.client.Client.{Client}
use Rattle.lw_client.specs.declared.client.Waits.{Waits}
use Rattle.lw_client.specs.declared.client.Use.{Use}
use Rattle.lw_ops.specs.Answering.{IsGot}
use Rattle.lw_client.specs.Clients.{HasSet, KeepsDevice, use_of, no_use, visits}
use Rattle.lw_client.proofs.Lists.{Reads, reads_set, reads_same}
use Rattle.lw_client.proofs.Devices.{seats_of_registry}
use Rattle.lw_client.proofs.Changes.{made, shared, refused}
use Rattle.lw_client.proofs.Listed.{set_on}

-- the set of a device's change in the channel and the seat
module _ (r : Run) (b : Client) (x : Channels) (d more : ℕ) (le : length b.did ≤ more) (s : HasSet r b.thread (length b.did) b.stage b.waits b.uses x) (devices : length r.registry ≡ length r.script.images) (within : d < length r.script.images) where
  in_channels : d < length x.channels
  in_channels = omega (arith, within, s.devices)

  in_seats : d < length x.row.seats
  in_seats = omega (arith, within, seats_of_registry x.row r.registry (length r.script.images) s.registry devices)

  pub both_on : (f : Channel → Channel) (g : SeatEnd → SeatEnd) (us : List Use) (u : Use) (w : Waits) → Reads no_use d b.uses us u → ((i : ℕ) → i ≢ d → visits w i ≡ visits b.waits i) → ((e : SeatEnd) → (g e).latch ≡ e.latch)
      → KeepsDevice b.thread more (visits w d) (f (channel_of x d)) (g (seat_of x.row d)) u → HasSet r b.thread more b.stage w us (with_both x d f g)
  both_on f g us u w ru same latch one = set_on r b.thread (length b.did) more b.stage b.waits w b.uses us x (with_both x d f g) d (f (channel_of x d)) (g (seat_of x.row d)) u s
      (latches-with_seat x.row d g latch) (length-set x.channels d (f (channel_of x d)))
      (reads_set no_channel d x.channels (f (channel_of x d)) in_channels) (reads_set no_seat d x.row.seats (g (seat_of x.row d)) in_seats) ru same le (λ l. one)

  pub channel_on : (f : Channel → Channel) (us : List Use) (u : Use) → Reads no_use d b.uses us u
      → KeepsDevice b.thread more (visits b.waits d) (f (channel_of x d)) (seat_of x.row d) u → HasSet r b.thread more b.stage b.waits us (with_channel x d f)
  channel_on f us u ru one = set_on r b.thread (length b.did) more b.stage b.waits b.waits b.uses us x (with_channel x d f) d (f (channel_of x d)) (seat_of x.row d) u s
      refl (length-set x.channels d (f (channel_of x d)))
      (reads_set no_channel d x.channels (f (channel_of x d)) in_channels) (reads_same no_seat d x.row.seats) ru (λ i other. refl) le (λ l. one)

  pub row_on : (g : SeatEnd → SeatEnd) (us : List Use) (u : Use) (w : Waits) → Reads no_use d b.uses us u → ((i : ℕ) → i ≢ d → visits w i ≡ visits b.waits i) → ((e : SeatEnd) → (g e).latch ≡ e.latch)
      → KeepsDevice b.thread more (visits w d) (channel_of x d) (g (seat_of x.row d)) u → HasSet r b.thread more b.stage w us (with_row x d g)
  row_on g us u w ru same latch one = set_on r b.thread (length b.did) more b.stage b.waits w b.uses us x (with_row x d g) d (channel_of x d) (g (seat_of x.row d)) u s
      (latches-with_seat x.row d g latch) refl
      (reads_same no_channel d x.channels) (reads_set no_seat d x.row.seats (g (seat_of x.row d)) in_seats) ru same le (λ l. one)

  pub kept : KeepsDevice b.thread (length b.did) (visits b.waits d) (channel_of x d) (seat_of x.row d) (use_of b d)
  kept = s.each d within

  pub uses_same : Reads no_use d b.uses b.uses (use_of b d)
  uses_same = reads_same no_use d b.uses

-- a get lists a line
module _ (r : Run) (b : Client) (x : Channels) (d : ℕ) (s : HasSet r b.thread (length b.did) b.stage b.waits b.uses x) (devices : length r.registry ≡ length r.script.images) (within : d < length r.script.images) where
  refused_latch : (o : Option ℕ) (e : SeatEnd) → (seat_refused o e).latch ≡ e.latch
  refused_latch None e = refl
  refused_latch (Some n) e = refl

  pub set_got : (y : Channels) (a : Answer) → IsGot d x y a → HasSet r b.thread (length b.did + 1) b.stage b.waits b.uses y
  set_got y (answer.Given n) g = subst (HasSet r b.thread (length b.did + 1) b.stage b.waits b.uses) (sym g.1)
      (both_on r b x d (length b.did + 1) (omega arith) s devices within (channel_made n) (seat_given n) b.uses (use_of b d) b.waits (reads_same no_use d b.uses) (λ i other. refl) (λ e. refl)
      (made b.thread (length b.did) (visits b.waits d) (channel_of x d) (seat_of x.row d) (use_of b d) (s.each d within) n))
  set_got y (answer.Again n) g = subst (HasSet r b.thread (length b.did + 1) b.stage b.waits b.uses) (sym g.1)
      (both_on r b x d (length b.did + 1) (omega arith) s devices within channel_shared seat_usable b.uses (use_of b d) b.waits (reads_same no_use d b.uses) (λ i other. refl) (λ e. refl)
      (shared b.thread (length b.did) (visits b.waits d) (channel_of x d) (seat_of x.row d) (use_of b d) (s.each d within)))
  set_got y answer.Shut g = subst (HasSet r b.thread (length b.did + 1) b.stage b.waits b.uses) (sym g)
      (both_on r b x d (length b.did + 1) (omega arith) s devices within channel_refused (seat_refused (channel_of x d).ordinal) b.uses (use_of b d) b.waits (reads_same no_use d b.uses) (λ i other. refl) (refused_latch (channel_of x d).ordinal)
      (refused b.thread (length b.did) (visits b.waits d) (channel_of x d) (seat_of x.row d) (use_of b d) (s.each d within) (channel_of x d).ordinal))
  set_got y answer.Counted g = absurd g
  set_got y answer.Deferred g = absurd g
  set_got y answer.NoChannel g = absurd g
  set_got y answer.Sent g = absurd g
  set_got y answer.Waited g = absurd g
  set_got y answer.Started g = absurd g
  set_got y (answer.Began n) g = absurd g
  set_got y answer.Already g = absurd g
  set_got y answer.Closed g = absurd g
