-- The rows of a registry as callers see them.
use Rattle.std.specs.Prelude.{◌≡◌, ℕ, ◌+◌, ◌<◌, ◌≤◌, List, [], ◌∷◌, length, map, slice_index_or, slice_set, All}
use Rattle.lw_base.specs.Totals.{total}
use Rattle.lw_latch.specs.DeviceWord.{view_given, view_not_given, view_visiting, view_usable, view_found, view_begun, view_fired, view_tried, closing_word, IsWhole}
use Rattle.lw_latch.specs.DeviceEnds.{DeviceLatch, SeatEnd, new_seat, both_ends, HaveFired}
use Rattle.lw_base.specs.declared.ends.DeviceEnd.{DeviceEnd}

-- the most devices of a registry
abbrev pub most_devices : ℕ
most_devices = 16

-- a row: its thread's number, and its seat at the latch of each device
pub record Row : Type 0 where
  pub thread : ℕ
  pub seats : List SeatEnd

-- of which registry a row is: the latches of its devices
abbrev pub latches : Row → List DeviceLatch
latches r = map (λ e. e.latch) r.seats

-- the seat of a device that isn't there
abbrev pub no_seat : SeatEnd
no_seat = new_seat (record { table = record { words = 0; slots = 0; views_name = 0; atom = 0; block = 0; offset = 0; slot_names = [] }; seats = 0 }) 0

-- what a row keeps of a device
abbrev pub seat_of : Row → ℕ → SeatEnd
seat_of r device = slice_index_or r.seats device no_seat

-- the row after a call that changes what it keeps of one device
abbrev pub with_seat : Row → ℕ → (SeatEnd → SeatEnd) → Row
with_seat r device change = record r { seats = slice_set r.seats device (change (seat_of r device)) }

-- What each call changes.

abbrev pub seat_given : ℕ → SeatEnd → SeatEnd
seat_given ordinal e = record e { view = view_given ordinal e.view }

abbrev pub seat_not_given : SeatEnd → SeatEnd
seat_not_given e = record e { view = view_not_given e.view }

abbrev pub seat_usable : SeatEnd → SeatEnd
seat_usable e = record e { view = view_usable e.view }

abbrev pub seat_looked : SeatEnd → SeatEnd
seat_looked e = record e { view = record e.view { looks = e.view.looks + 1 } }

abbrev pub seat_found : SeatEnd → SeatEnd
seat_found e = record e { view = view_found e.view }

abbrev pub seat_visiting : SeatEnd → SeatEnd
seat_visiting e = record e { view = view_visiting e.view }

abbrev pub seat_not_visiting : SeatEnd → SeatEnd
seat_not_visiting e = record e { view = record e.view { visit = 0 } }

abbrev pub seat_destroyed : SeatEnd → SeatEnd
seat_destroyed e = record e { view = record e.view { channel = 0 } }

abbrev pub seat_began : ℕ → ℕ → SeatEnd → SeatEnd
seat_began given opens e = record e { began_by = e.number; view = view_begun given opens e.view }

abbrev pub seat_fired : SeatEnd → SeatEnd
seat_fired e = record e { view = view_fired (closing_word e.view.count) e.view }

abbrev pub seat_tried : ℕ → SeatEnd → SeatEnd
seat_tried seen e = record e { view = view_tried seen e.view }

-- a row of a new registry
abbrev pub new_row : List DeviceLatch → ℕ → Row
new_row ls thread = record { thread = thread; seats = map (λ l. new_seat l thread) ls }

-- the rows of a new registry of so many devices, one a thread
pub record AreNewRows (count threads : ℕ) (rows : List Row) : Type 0 where
  pub registry : List DeviceLatch
  pub device_count : length registry ≡ count
  pub for_threads : All (λ l. l.seats ≡ threads) registry
  pub row_count : length rows ≡ threads
  pub each_row : (t : ℕ) (r : Row) → t < threads → slice_index_or rows t r ≡ new_row registry t

-- what two rows keep together
abbrev pub both_seats : List SeatEnd → List SeatEnd → List SeatEnd
both_seats [] fs = []
both_seats (e ∷ es) [] = e ∷ es
both_seats (e ∷ es) (f ∷ fs) = both_ends e f ∷ both_seats es fs

abbrev pub both_rows : Row → Row → Row
both_rows r s = record r { seats = both_seats r.seats s.seats }

-- what the first of these rows keeps once it has taken in the others
abbrev pub gathered_into : Row → List Row → Row
gathered_into r [] = r
gathered_into r (s ∷ ss) = gathered_into (both_rows r s) ss

abbrev pub gathered : List Row → Row
gathered [] = record { thread = 0; seats = [] }
gathered (r ∷ rs) = gathered_into r rs

-- what these rows keep of a device
abbrev pub seats_of : ℕ → List Row → List SeatEnd
seats_of device rows = map (λ r. seat_of r device) rows

-- rows of one registry, at least one
pub record AreOfOne (rows : List Row) : Type 0 where
  pub registry : List DeviceLatch
  pub some_row : 1 ≤ length rows
  pub of_registry : All (λ r. latches r ≡ registry) rows

-- these rows, with those that they have taken in, are all rows of a registry, and each of its devices has fired
pub record AreAllRows (rows : List Row) : Type 0 where
  pub of_one : AreOfOne rows
  pub all_rows : (d : ℕ) (l : DeviceLatch) → d < length of_one.registry → total (λ e. e.view.seats) (seats_of d rows) ≡ (slice_index_or of_one.registry d l).seats
  pub have_fired : (d : ℕ) → d < length of_one.registry → HaveFired (seats_of d rows)

-- what came of a device, by a seat that stands for all
pub record IsEndOf (e : SeatEnd) (x : DeviceEnd) : Type 0 where
  pub whole : IsWhole e.view
  pub given : x.given ≡ length e.view.ordinals
  pub thread : x.thread ≡ e.began_by
  pub callbacks : x.callbacks ≡ e.view.fired
