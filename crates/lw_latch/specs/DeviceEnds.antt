-- What callers see of the seats of a device's latch.
use Rattle.std.specs.Prelude.{◌≡◌, ◌⊎◌, ℕ, ◌+◌, ◌<◌, ◌≤◌, ◌==◌, Bool, true, false, if◌then◌else◌, List, [], length, slice_index_or, All, Any}
use Rattle.atomic_table.specs.Seated.{TableId}
use Rattle.atomic_table.specs.declared.shared.Seat.{Seat}
use Rattle.lw_latch.specs.declared.device_view.DeviceView.{DeviceView}
use Rattle.lw_base.specs.Totals.{total, times}
use Rattle.lw_latch.specs.OwnLine.{table_words}
use Rattle.lw_latch.specs.DeviceWord.{above_all_given, idle_view, both_views, held_count}

-- which latch, and how many seats it was made with
pub record DeviceLatch : Type 0 where
  pub table : TableId
  pub seats : ℕ

-- a seat: of which latch it is, its number, the number of the seat that began the unregistration where it or one that it
-- took in did so (0 where none did), and what it knows
pub record SeatEnd : Type 0 where
  pub latch : DeviceLatch
  pub number : ℕ
  pub began_by : ℕ
  pub view : DeviceView

-- what a seat keeps between its calls: it is at the word of its table, holds no slot, takes nothing back, and keeps whether
-- it or one that it took in began, and what was told then
pub record IsDeviceSeat (table : TableId) (seat : Seat (Unit {0}) DeviceView) (began : Bool) (given : ℕ) : Type 0 where
  pub same_table : seat.table_id ≡ table
  pub words : seat.table_id.words ≡ table_words
  pub no_slots : seat.me.1 ≡ []
  pub some_seat : 1 ≤ seat.me.0.seats
  pub no_backing : seat.me.0.backing ≡ 0
  pub no_leaving : seat.me.0.leaving ≡ 0
  pub not_begun : began ≡ false → seat.me.0.begun ≡ 0
  pub has_begun : began ≡ true → 1 ≤ seat.me.0.begun
  pub fired_begun : seat.me.0.fired ≤ seat.me.0.begun
  pub count : given ≡ seat.me.0.count
  pub few_given : given < above_all_given

-- the seat stands for all of its latch: it has taken in all others
abbrev pub HasAllSeats : SeatEnd → Type 0
HasAllSeats e = e.view.seats ≡ e.latch.seats

-- a seat of a new latch
abbrev pub new_seat : DeviceLatch → ℕ → SeatEnd
new_seat latch number = record { latch = latch; number = number; began_by = 0; view = idle_view latch.seats 1 }

-- the seats of a new latch, by their numbers
pub record AreNewSeats (all : ℕ) (es : List SeatEnd) : Type 0 where
  pub latch : DeviceLatch
  pub for_seats : latch.seats ≡ all
  pub seat_count : length es ≡ all
  pub each_seat : (k : ℕ) (d : SeatEnd) → k < all → slice_index_or es k d ≡ new_seat latch k

-- what two seats know together
abbrev pub both_ends : SeatEnd → SeatEnd → SeatEnd
both_ends e f = record e { began_by = if e.view.begun == 0 then f.began_by else e.began_by; view = both_views e.view f.view }

-- the seat has fired only where it, or a seat that it took in, began
abbrev pub FiresOnlyWhatItBegan : SeatEnd → Type 0
FiresOnlyWhatItBegan e = e.view.fired ≤ e.view.begun

-- the seat has no channel and no visit, and has fired where it began: it may be taken in
pub record MayBeTakenIn (e : SeatEnd) : Type 0 where
  pub no_channel : e.view.channel ≡ 0
  pub no_visit : e.view.visit ≡ 0
  pub has_fired : e.view.begun ≤ e.view.fired

-- the device is known to have fired: by a seat that fired; or since one found it shut or began, and each that began fired
abbrev pub HaveFired : List SeatEnd → Type 0
HaveFired es =
    (Any (λ e. 1 ≤ e.view.fired) es)
    ⊎ (Any (λ e. 1 ≤ e.view.found + e.view.begun) es × All (λ e. e.view.begun ≤ e.view.fired) es)

-- what is known of a device once all of its seats are in one hand and it has fired: the ordinals of its channels are all
-- numbers below the count of them, each once; one seat began, was told that count and fired, and no other did; no seat found
-- the device open from then on; nothing is open
pub record Settles (es : List SeatEnd) (given began_by callbacks : ℕ) : Type 0 where
  pub once : (k : ℕ) → k < given → total (λ e. times k e.view.ordinals) es ≡ 1
  pub none_else : (k : ℕ) → given ≤ k → total (λ e. times k e.view.ordinals) es ≡ 0
  pub count : total (λ e. length e.view.ordinals) es ≡ given
  pub began : Any (λ e. (e.view.begun ≡ 1) × (e.view.count ≡ given) × (e.view.opens_then ≡ total (λ f. f.view.opens) es) × (e.began_by ≡ began_by)) es
  pub alone : total (λ e. e.view.begun) es ≡ 1
  pub fired : total (λ e. e.view.fired) es ≡ callbacks
  pub one_callback : callbacks ≡ 1
  pub by_it : All (λ e. e.view.fired ≡ e.view.begun) es
  pub nothing_open : All (λ e. held_count e.view ≡ 0) es
