-- A registry with one device, when it is settled.
use Rattle.std.proofs.Common.{◌≡◌, inl, inr, ℕ, zero, suc, ◌+◌, ◌<◌, ◌≤◌, List, [], ◌∷◌, length, get_or, refl, ap, arith, All}
use Rattle.std.proofs.lemmas.List.Elements.{All-head, All-nil, All-cons}
use Rattle.lw_latch.specs.DeviceEnds.{DeviceLatch, SeatEnd, HaveFired}
use Rattle.lw_base.specs.Totals.{total}
use Rattle.lw_device.specs.Rows.{Row, latches, seat_of, seats_of, new_row, AreNewRows, AreAllRows}
use Rattle.lw_device_tests.specs.Registries.{AreRowsOfOne, FoundAndFired}

of_one : (threads : ℕ) (rows : List Row) (ls : List DeviceLatch) → length ls ≡ 1 → All (λ l. l.seats ≡ threads) ls → length rows ≡ threads
    → ((t : ℕ) (r : Row) → t < threads → get_or rows t r ≡ new_row ls t) → AreRowsOfOne threads rows
of_one threads rows [] one for count each = absurd (omega arith)
of_one threads rows (l ∷ []) one for count each = record { latch = l; for_threads = All-head (λ (k : DeviceLatch). k.seats ≡ threads) l [] for; row_count = count; each_row = each }
of_one threads rows (l ∷ k ∷ ls) one for count each = absurd (omega arith)

pub rows_of_one : (threads : ℕ) (rows : List Row) → AreNewRows 1 threads rows → AreRowsOfOne threads rows
rows_of_one threads rows a = of_one threads rows a.registry a.device_count a.for_threads a.row_count a.each_row

one_row : (r : Row) (k : ℕ) (d : Row) → k < 1 → latches (get_or (r ∷ []) k d) ≡ latches r
one_row r zero d b = refl
one_row r (suc k) d b = absurd (omega arith)

all_of : (t : ℕ) (e : SeatEnd) → e.view.seats ≡ e.latch.seats → (d : ℕ) (l : DeviceLatch) → d < 1
    → total (λ e. e.view.seats) (seats_of d (record { thread = t; seats = e ∷ [] } ∷ [])) ≡ (get_or (e.latch ∷ []) d l).seats
all_of t e all zero l b = omega arith
all_of t e all (suc d) l b = absurd (omega arith)

fired_of : (t : ℕ) (e : SeatEnd) → e.view.fired ≡ 1 → (d : ℕ) → d < 1 → HaveFired (seats_of d (record { thread = t; seats = e ∷ [] } ∷ []))
fired_of t e fired zero b = inl (0, e, omega arith, refl, omega arith)
fired_of t e fired (suc d) b = absurd (omega arith)

in_row : (t : ℕ) (es : List SeatEnd) → length es ≡ 1
    → (seat_of (record { thread = t; seats = es }) 0).view.seats ≡ (seat_of (record { thread = t; seats = es }) 0).latch.seats
    → (seat_of (record { thread = t; seats = es }) 0).view.fired ≡ 1 → AreAllRows (record { thread = t; seats = es } ∷ [])
in_row t [] one all fired = absurd (omega arith)
in_row t (e ∷ []) one all fired = record {
  of_one = record { registry = e.latch ∷ []; some_row = omega arith; of_registry = one_row (record { thread = t; seats = e ∷ [] }) };
  all_rows = all_of t e all;
  have_fired = fired_of t e fired;
}
in_row t (e ∷ f ∷ es) one all fired = absurd (omega arith)

-- a row that stands for all rows, and has fired the one device
pub alone : (r : Row) → length r.seats ≡ 1 → (seat_of r 0).view.seats ≡ (seat_of r 0).latch.seats → (seat_of r 0).view.fired ≡ 1 → AreAllRows (r ∷ [])
alone r = in_row r.thread r.seats

-- two rows, each with its seat of the one device
abbrev pair : ℕ → SeatEnd → ℕ → SeatEnd → List Row
pair t e u f = record { thread = t; seats = e ∷ [] } ∷ record { thread = u; seats = f ∷ [] } ∷ []

latches_of_two : (t : ℕ) (e : SeatEnd) (u : ℕ) (f : SeatEnd) → f.latch ≡ e.latch → (k : ℕ) (d : Row) → k < 2 → latches (get_or (pair t e u f) k d) ≡ e.latch ∷ []
latches_of_two t e u f same zero d b = refl
latches_of_two t e u f same (suc zero) d b = ap (λ (l : DeviceLatch). l ∷ []) same
latches_of_two t e u f same (suc (suc k)) d b = absurd (omega arith)

all_of_two : (t : ℕ) (e : SeatEnd) (u : ℕ) (f : SeatEnd) → e.view.seats + f.view.seats ≡ e.latch.seats → (d : ℕ) (l : DeviceLatch) → d < 1
    → total (λ e. e.view.seats) (seats_of d (pair t e u f)) ≡ (get_or (e.latch ∷ []) d l).seats
all_of_two t e u f all zero l b = omega arith
all_of_two t e u f all (suc d) l b = absurd (omega arith)

abbrev HasFired : SeatEnd → Type 0
HasFired e = e.view.begun ≤ e.view.fired

found_of_two : (t : ℕ) (e : SeatEnd) (u : ℕ) (f : SeatEnd) → 1 ≤ e.view.found → HasFired e → HasFired f → (d : ℕ) → d < 1 → HaveFired (seats_of d (pair t e u f))
found_of_two t e u f found mine others zero b = inr ((0, e, omega arith, refl, omega arith), All-cons HasFired e (f ∷ []) mine (All-cons HasFired f [] others (All-nil HasFired)))
found_of_two t e u f found mine others (suc d) b = absurd (omega arith)

in_rows : (t u : ℕ) (es fs : List SeatEnd) → FoundAndFired (record { thread = t; seats = es }) (record { thread = u; seats = fs })
    → AreAllRows (record { thread = t; seats = es } ∷ record { thread = u; seats = fs } ∷ [])
in_rows t u [] fs h = absurd (let n = h.finder_seat in omega arith)
in_rows t u (e ∷ []) [] h = absurd (let n = h.other_seat in omega arith)
in_rows t u (e ∷ []) (f ∷ []) h = record {
  of_one = record { registry = e.latch ∷ []; some_row = omega arith; of_registry = latches_of_two t e u f h.same_latch };
  all_rows = all_of_two t e u f h.all_seats;
  have_fired = found_of_two t e u f h.found h.finder_fired h.other_fired;
}
in_rows t u (e ∷ []) (f ∷ g ∷ fs) h = absurd (let n = h.other_seat in omega arith)
in_rows t u (e ∷ g ∷ es) fs h = absurd (let n = h.finder_seat in omega arith)

-- of two rows that stand for all one found the one device shut, and it has fired
pub found_shut : (r s : Row) → FoundAndFired r s → AreAllRows (r ∷ s ∷ [])
found_shut r s = in_rows r.thread s.thread r.seats s.seats
