-- What the calls of the app leave in the notes of its row.
use Rattle.std.proofs.Common.{◌≡◌, ℕ, zero, suc, ◌+◌, ◌==◌, true, List, [], ◌∷◌, slice_set, refl, sym, ap, ◌∙◌, arith}
use Rattle.std.proofs.lemmas.Bool.{and_from, eq-eqb}
use Rattle.lw_latch.specs.DeviceWord.{KnowsOpen}
use Rattle.lw_latch.specs.DeviceEnds.{SeatEnd, both_ends}
use Rattle.lw_device.specs.Rows.{Row, seat_of, with_seat, both_seats, seat_began, seat_fired}
use Rattle.lw_whole.specs.Letters.{Note}
use Rattle.lw_whole.specs.Notes.{note_at, both_rows, knows_open}
use Rattle.lw_history.specs.Noting.{note_began, note_fired, with_note}
use Rattle.lw_mail.specs.Saying.{note_of, notes_of}

pub note_is : (es : List SeatEnd) (d : ℕ) (r : Row) → r.seats ≡ es → note_at (notes_of es) d ≡ note_of (seat_of r d)
note_is es d r e = at es d ∙ ap (λ x. note_of (seat_of (record { thread = 0; seats = x }) d)) (sym e)
  where
    at : (es : List SeatEnd) (d : ℕ) → note_at (notes_of es) d ≡ note_of (seat_of (record { thread = 0; seats = es }) d)
    at [] d = refl
    at (e ∷ es) zero = refl
    at (e ∷ es) (suc d) = at es d

notes_set : (es : List SeatEnd) (d : ℕ) (e : SeatEnd) → notes_of (slice_set es d e) ≡ slice_set (notes_of es) d (note_of e)
notes_set [] d e = refl
notes_set (x ∷ es) zero e = refl
notes_set (x ∷ es) (suc d) e = ap (λ ns. note_of x ∷ ns) (notes_set es d e)

-- a call that changes the note of a device
pub notes_with : (r : Row) (d : ℕ) (f : SeatEnd → SeatEnd) (g : Note → Note) → note_of (f (seat_of r d)) ≡ g (note_of (seat_of r d)) → notes_of (with_seat r d f).seats ≡ with_note (notes_of r.seats) d g
notes_with r d f g e = notes_set r.seats d (f (seat_of r d)) ∙ ap (slice_set (notes_of r.seats) d) (e ∙ ap g (sym (note_is r.seats d r refl)))

-- and one that changes none
pub notes_kept : (r : Row) (d : ℕ) (f : SeatEnd → SeatEnd) → note_of (f (seat_of r d)) ≡ note_of (seat_of r d) → notes_of (with_seat r d f).seats ≡ notes_of r.seats
notes_kept r d f e = notes_with r d f (λ n. n) e ∙ same (notes_of r.seats) d
  where
    same : (ns : List Note) (d : ℕ) → slice_set ns d (note_at ns d) ≡ ns
    same [] d = refl
    same (n ∷ ns) zero = refl
    same (n ∷ ns) (suc d) = ap (λ l. n ∷ l) (same ns d)

pub began_note : (e : SeatEnd) (given opens : ℕ) → e.number ≡ 0 → note_of (seat_began given opens e) ≡ note_began 0 given (note_of e)
began_note e given opens z = ap (λ (n : ℕ). record { ordinals = e.view.ordinals; found = e.view.found; begun = 1; count = given; began_by = n; fired = e.view.fired }) z

pub fired_note : (e : SeatEnd) → e.view.fired ≡ 0 → note_of (seat_fired e) ≡ note_fired (note_of e)
fired_note e z =
    let once : (1 ≡ e.view.fired + 1) = omega (arith, z) in
    ap (λ (n : ℕ). record { ordinals = e.view.ordinals; found = e.view.found; begun = e.view.begun; count = e.view.count; began_by = e.began_by; fired = n }) once

-- what two rows keep together
pub notes_both : (es fs : List SeatEnd) → notes_of (both_seats es fs) ≡ both_rows (notes_of es) (notes_of fs)
notes_both [] fs = refl
notes_both (e ∷ es) [] = refl
notes_both (e ∷ es) (f ∷ fs) = ap (λ ns. note_of (both_ends e f) ∷ ns) (notes_both es fs)

-- a device that the row knows open
pub note_open : (r : Row) (d : ℕ) → KnowsOpen (seat_of r d).view → knows_open (note_at (notes_of r.seats) d) ≡ true
note_open r d k = ap knows_open (note_is r.seats d r refl) ∙ and_from ((seat_of r d).view.found == 0) ((seat_of r d).view.begun == 0) (eq-eqb (seat_of r d).view.found 0 k.0) (eq-eqb (seat_of r d).view.begun 0 k.1)
