-- A row of one device, after a call that changes its seat.
use Rattle.std.proofs.Common.{◌≡◌, ℕ, List, [], ◌∷◌, length, refl, arith}
use Rattle.lw_latch.specs.DeviceEnds.{SeatEnd}
use Rattle.lw_device.specs.Rows.{Row, seat_of, with_seat}
use Rattle.lw_device_tests.specs.Registries.{HasBegun}

one_of : (t : ℕ) (es : List SeatEnd) (f : SeatEnd → SeatEnd) → length es ≡ 1 → length (with_seat (record { thread = t; seats = es }) 0 f).seats ≡ 1
one_of t [] f one = absurd (omega arith)
one_of t (e ∷ []) f one = refl
one_of t (e ∷ g ∷ es) f one = absurd (omega arith)

-- it has one seat still
pub one_kept : (r : Row) (f : SeatEnd → SeatEnd) → length r.seats ≡ 1 → length (with_seat r 0 f).seats ≡ 1
one_kept r f = one_of r.thread r.seats f

begun_of : (t : ℕ) (es : List SeatEnd) (f : SeatEnd → SeatEnd) → ((e : SeatEnd) → HasBegun e → HasBegun (f e)) → length es ≡ 1
    → HasBegun (seat_of (record { thread = t; seats = es }) 0) → HasBegun (seat_of (with_seat (record { thread = t; seats = es }) 0 f) 0)
begun_of t [] f same one h = absurd (omega arith)
begun_of t (e ∷ []) f same one h = same e h
begun_of t (e ∷ g ∷ es) f same one h = absurd (omega arith)

-- a seat that began has begun still
pub begun_kept : (r : Row) (f : SeatEnd → SeatEnd) → ((e : SeatEnd) → HasBegun e → HasBegun (f e)) → length r.seats ≡ 1
    → HasBegun (seat_of r 0) → HasBegun (seat_of (with_seat r 0 f) 0)
begun_kept r f = begun_of r.thread r.seats f
