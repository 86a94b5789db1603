-- Rows of a registry with one device.
use Rattle.std.specs.Prelude.{◌≡◌, ℕ, ◌+◌, ◌<◌, ◌≤◌, List, [], ◌∷◌, length, slice_index_or}
use Rattle.lw_latch.specs.DeviceEnds.{DeviceLatch, SeatEnd, new_seat}
use Rattle.lw_device.specs.Rows.{Row, seat_of}

-- the latch of the one device
abbrev pub latch_of : Row → DeviceLatch
latch_of r = (seat_of r 0).latch

-- a seat that began the unregistration itself
abbrev pub HasBegun : SeatEnd → Type 0
HasBegun e = (1 ≤ e.view.begun) × (e.began_by ≡ e.number)

-- a new row
abbrev pub row_of : DeviceLatch → ℕ → Row
row_of latch thread = record { thread = thread; seats = new_seat latch thread ∷ [] }

-- two rows that stand for all: the first found the device shut, and where one of them began it has fired
pub record FoundAndFired (finder other : Row) : Type 0 where
  pub finder_seat : length finder.seats ≡ 1
  pub other_seat : length other.seats ≡ 1
  pub same_latch : latch_of other ≡ latch_of finder
  pub all_seats : (seat_of finder 0).view.seats + (seat_of other 0).view.seats ≡ (latch_of finder).seats
  pub found : 1 ≤ (seat_of finder 0).view.found
  pub finder_fired : (seat_of finder 0).view.begun ≤ (seat_of finder 0).view.fired
  pub other_fired : (seat_of other 0).view.begun ≤ (seat_of other 0).view.fired

-- the rows of a new registry, one a thread
pub record AreRowsOfOne (threads : ℕ) (rows : List Row) : Type 0 where
  pub latch : DeviceLatch
  pub for_threads : latch.seats ≡ threads
  pub row_count : length rows ≡ threads
  pub each_row : (t : ℕ) (r : Row) → t < threads → slice_index_or rows t r ≡ row_of latch t
