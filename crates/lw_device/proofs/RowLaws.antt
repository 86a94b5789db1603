-- What a call on one device leaves of a row as it was, and what two rows keep together.
use Rattle.std.proofs.Common.{◌≡◌, ◌≢◌, ℕ, zero, suc, ◌<◌, List, [], ◌∷◌, length, map, set, get_or, refl, sym, ap, ◌∙◌, arith, length-set, get_or-set_same, get_or-set_other}
use Rattle.std.proofs.lemmas.List.{length-map}
use Rattle.lw_latch.specs.DeviceEnds.{DeviceLatch, SeatEnd, new_seat, both_ends}
use Rattle.lw_device.specs.Rows.{Row, latches, no_seat, seat_of, with_seat, new_row, both_rows}
use Rattle.lw_device.proofs.Pairing.{latch_of}
use Rattle.lw_device.proofs.Joining.{seat_both, length_both, latches_both}

-- the seat of the device is changed
pub seat_of-with_seat : (r : Row) (d : ℕ) (f : SeatEnd → SeatEnd) → d < length r.seats → seat_of (with_seat r d f) d ≡ f (seat_of r d)
seat_of-with_seat r d f l = get_or-set_same r.seats d (f (seat_of r d)) no_seat l

-- and no other
pub seat_of-with_seat-other : (r : Row) (d : ℕ) (f : SeatEnd → SeatEnd) (k : ℕ) → k ≢ d → seat_of (with_seat r d f) k ≡ seat_of r k
seat_of-with_seat-other r d f k apart = get_or-set_other r.seats d k (f (seat_of r d)) no_seat apart

pub length-with_seat : (r : Row) (d : ℕ) (f : SeatEnd → SeatEnd) → length (with_seat r d f).seats ≡ length r.seats
length-with_seat r d f = length-set r.seats d (f (seat_of r d))

-- the row stays one of its registry
pub latches-with_seat : (r : Row) (d : ℕ) (f : SeatEnd → SeatEnd) → ((e : SeatEnd) → (f e).latch ≡ e.latch) → latches (with_seat r d f) ≡ latches r
latches-with_seat r d f same = go r.seats d (f (seat_of r d)) (λ b. same (seat_of r d))
  where
    go : (es : List SeatEnd) (d : ℕ) (x : SeatEnd) → (d < length es → x.latch ≡ (get_or es d no_seat).latch) → map latch_of (set es d x) ≡ map latch_of es
    go [] d x s = refl
    go (e ∷ es) zero x s = ap (λ (l : DeviceLatch). l ∷ map latch_of es) (s (omega arith))
    go (e ∷ es) (suc d) x s = ap (λ (l : List DeviceLatch). e.latch ∷ l) (go es d x (λ b. s (omega arith)))

-- rows of one registry have a seat for each of its devices
pub length-seats : (r s : Row) → latches s ≡ latches r → length s.seats ≡ length r.seats
length-seats r s same = sym (length-map s.seats latch_of) ∙ ap length same ∙ length-map r.seats latch_of

pub seat_of-both_rows : (r s : Row) (d : ℕ) → latches s ≡ latches r → d < length r.seats → seat_of (both_rows r s) d ≡ both_ends (seat_of r d) (seat_of s d)
seat_of-both_rows r s d same l = seat_both r.seats s.seats d no_seat l (length-seats r s same)

pub length-both_rows : (r s : Row) → length (both_rows r s).seats ≡ length r.seats
length-both_rows r s = length_both r.seats s.seats

pub latches-both_rows : (r s : Row) → latches (both_rows r s) ≡ latches r
latches-both_rows r s = latches_both r.seats s.seats

-- a new row has a new seat for each device
pub length-new_row : (ls : List DeviceLatch) (thread : ℕ) → length (new_row ls thread).seats ≡ length ls
length-new_row ls thread = length-map ls (λ (l : DeviceLatch). new_seat l thread)

pub seat_of-new_row : (ls : List DeviceLatch) (thread d : ℕ) (l : DeviceLatch) → d < length ls → seat_of (new_row ls thread) d ≡ new_seat (get_or ls d l) thread
seat_of-new_row [] thread d l b = absurd (omega arith)
seat_of-new_row (x ∷ ls) thread zero l b = refl
seat_of-new_row (x ∷ ls) thread (suc d) l b = seat_of-new_row ls thread d l (omega arith)

pub latches-new_row : (ls : List DeviceLatch) (thread : ℕ) → latches (new_row ls thread) ≡ ls
latches-new_row [] thread = refl
latches-new_row (x ∷ ls) thread = ap (λ (r : List DeviceLatch). x ∷ r) (latches-new_row ls thread)
