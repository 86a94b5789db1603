-- What the app keeps of its run, whatever it has run so far.
use Rattle.std.specs.Prelude.{ℕ, ◌+◌, ◌≡◌, ◌<◌, ◌≤◌, Bool, true, false, List, length, slice_index_or}
use Rattle.std.specs.Arc.{arc_value}
use Rattle.lw_latch.specs.DeviceEnds.{SeatEnd}
use Rattle.lw_device.specs.Rows.{latches, seat_of}
use Rattle.lw_channel.specs.Channels.{IsEmpty}
use Rattle.lw_model.specs.declared.script.Script.{Script}
use Rattle.lw_mail.specs.Runs.{Run}
use Rattle.lw_app.specs.declared.app.Stage.{Stage}
use Rattle.lw_app.specs.declared.app.Stage.TheVariants as stage
use Rattle.lw_app.specs.declared.app.App.{App}
use Rattle.lw_app.specs.Flags.{how_many}

-- a flag; one that isn't there is not set
abbrev pub flag_at : List Bool → ℕ → Bool
flag_at fs k = slice_index_or fs k false

-- What is so of the seat of device d, where the devices before n were unregistered. `all` is how many threads have a set that the
-- app has or is to take in, of which `awaited` have not handed theirs over; `owed` says whether the callback is owed.
pub record IsSeat (n d all awaited : ℕ) (owed : Bool) (e : SeatEnd) : Type 0 where
  pub number : e.number ≡ 0
  pub no_visit : e.view.visit ≡ 0
  -- the seat stands for the app's and for each that was taken in
  pub seats : e.view.seats + awaited ≡ all
  -- the app itself began what it owes; of what it doesn't owe, who began fired
  pub owes : owed ≡ true → (e.view.begun ≡ 1) × (e.began_by ≡ 0)
  pub fired : owed ≡ false → e.view.begun ≤ e.view.fired
  -- a device that was unregistered was shut, and it is known
  pub shut : d < n → 1 ≤ e.view.found + e.view.begun
  pub later : n ≤ d → owed ≡ false

-- the app of this run, where the devices before n were unregistered: it shares the run's script, and its set is of the run's
-- registry and holds no channel
pub record IsApp (r : Run) (n : ℕ) (b : App) : Type 0 where
  pub script : arc_value b.script ≡ r.script
  pub devices : length r.registry ≡ length r.script.images
  pub registry : latches b.set.row ≡ r.registry
  pub empty : IsEmpty b.set
  pub clients : length b.awaited ≡ length r.script.clients
  pub images : length b.owed ≡ length r.script.images
  pub seats : (d : ℕ) → d < length r.script.images → IsSeat n d (1 + length r.script.clients) (how_many b.awaited) (flag_at b.owed d) (seat_of b.set.row d)

-- how many devices were unregistered at a stage
abbrev pub lines_at : Stage → Script → ℕ
lines_at stage.Waiting s = 0
lines_at stage.Calling s = length s.images
lines_at stage.Stopped s = length s.images
