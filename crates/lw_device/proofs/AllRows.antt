-- All rows of a registry in one.
use Rattle.std.proofs.Common.{◌≡◌, ℕ, zero, suc, ◌<◌, List, [], ◌∷◌, length, map, get_or, refl, sym, ap, subst, ◌∙◌, arith, All}
use Rattle.std.specs.Prelude.{IfOk, Ok, Err, Result}
use Rattle.std.proofs.lemmas.List.{length-map, get_or_default}
use Rattle.std.proofs.lemmas.List.Elements.{All-head, All-tail, All-weaker, All-map, All-from_get_or}
use Rattle.lw_latch.specs.DeviceEnds.{DeviceLatch, FiresOnlyWhatItBegan, SeatEnd, Settles}
use Rattle.lw_base.specs.declared.ends.DeviceEnd.{DeviceEnd}
use Rattle.lw_device.specs.Rows.{Row, latches, seat_of, no_seat, seats_of, gathered, gathered_into, AreAllRows, IsEndOf}
use Rattle.lw_device.proofs.Pairing.{latch_of}
use Rattle.lw_device.proofs.Joining.{joined, joined_sum, joined_latch, seat_gathered, length_gathered}
use Rattle.lw_device.proofs.Settled.{settles}

latch_at : (es : List SeatEnd) (d : ℕ) (x : SeatEnd) (l : DeviceLatch) → d < length es → get_or (map latch_of es) d l ≡ (get_or es d x).latch
latch_at [] d x l b = absurd (omega arith)
latch_at (e ∷ es) zero x l b = refl
latch_at (e ∷ es) (suc d) x l b = latch_at es d x l (omega arith)

-- of rows of one registry each has a seat for each device
seat_count : (registry : List DeviceLatch) (r : Row) → latches r ≡ registry → length r.seats ≡ length registry
seat_count registry r is = sym (length-map r.seats latch_of) ∙ ap length is

all_long : (registry : List DeviceLatch) (r : Row) (rs : List Row) → latches r ≡ registry → All (λ s. latches s ≡ registry) rs → All (λ s. length s.seats ≡ length r.seats) rs
all_long registry r rs is = All-weaker (λ (s : Row). latches s ≡ registry) (λ (s : Row). length s.seats ≡ length r.seats) (λ s of. seat_count registry s of ∙ sym (seat_count registry r is)) rs

-- the seat of a device in the one row
one_seat_of : (r : Row) (rs : List Row) (a : AreAllRows (r ∷ rs)) (d : ℕ) → d < length r.seats → seat_of (gathered_into r rs) d ≡ joined (seat_of r d) (seats_of d rs)
one_seat_of r rs a d l =
    let P = λ (s : Row). latches s ≡ a.of_one.registry in
    seat_gathered d r rs l (all_long a.of_one.registry r rs (All-head P r rs a.of_one.of_registry) (All-tail P r rs a.of_one.of_registry))

pub stands_for_all : (rows : List Row) → AreAllRows rows → All (λ e. e.view.seats ≡ e.latch.seats) (gathered rows).seats
stands_for_all [] a k d l = absurd (let s = a.of_one.some_row in omega arith)
stands_for_all (r ∷ rs) a k d l =
    let registry = a.of_one.registry in
    let P = λ (s : Row). latches s ≡ registry in
    let of = All-head P r rs a.of_one.of_registry in
    let long = length_gathered r rs in
    let count = seat_count registry r of in
    let j = joined (seat_of r k) (seats_of k rs) in
    let is : get_or (gathered_into r rs).seats k d ≡ j = get_or_default (gathered_into r rs).seats k d no_seat l ∙ one_seat_of r rs a k (omega arith) in
    let latch : j.latch ≡ get_or registry k j.latch = joined_latch (seat_of r k) (seats_of k rs) ∙ sym (latch_at r.seats k no_seat j.latch (omega arith)) ∙ ap (λ (l : List DeviceLatch). get_or l k j.latch) of in
    let sum = joined_sum (λ (e : SeatEnd). e.view.seats) (λ e f. refl) (seat_of r k) (seats_of k rs) in
    let all = a.all_rows k j.latch (omega arith) in
    subst (λ (e : SeatEnd). e.view.seats ≡ e.latch.seats) (sym is) (sum ∙ all ∙ ap (λ (l : DeviceLatch). l.seats) (sym latch))

pub each_settles : (rows : List Row) → AreAllRows rows → (ends : List DeviceEnd) → length ends ≡ length (gathered rows).seats
    → ((d : ℕ) (x : DeviceEnd) → d < length (gathered rows).seats → IsEndOf (seat_of (gathered rows) d) (get_or ends d x))
    → All (λ r. All FiresOnlyWhatItBegan r.seats) rows
    → (d : ℕ) (x : DeviceEnd) → d < length ends → Settles (seats_of d rows) (get_or ends d x).given (get_or ends d x).thread (get_or ends d x).callbacks
each_settles [] a ends long each fires d x l = absurd (let s = a.of_one.some_row in omega arith)
each_settles (r ∷ rs) a ends long each fires d x l =
    let same = length_gathered r rs in
    let P = λ (s : Row). latches s ≡ a.of_one.registry in
    let count = seat_count a.of_one.registry r (All-head P r rs a.of_one.of_registry) in
    let is = one_seat_of r rs a d (omega arith) in
    let here : (s : Row) → latches s ≡ a.of_one.registry → All FiresOnlyWhatItBegan s.seats → FiresOnlyWhatItBegan (seat_of s d) = λ s of f. (let c = seat_count a.of_one.registry s of in f d no_seat (omega arith)) in
    let all : All FiresOnlyWhatItBegan (seats_of d (r ∷ rs)) = All-map FiresOnlyWhatItBegan (λ (s : Row). seat_of s d) (r ∷ rs) (λ k s b. here (get_or (r ∷ rs) k s) (a.of_one.of_registry k s b) (fires k s b)) in
    settles (seat_of r d) (seats_of d rs) (get_or ends d x) (subst (λ (e : SeatEnd). IsEndOf e (get_or ends d x)) is (each d x (omega arith))) (a.have_fired d (omega arith)) all

-- the seats of a row, of each of which it is known what came of its device, fired only what they began
pub ends_fire : (r : Row) (ends : List DeviceEnd) → ((d : ℕ) (x : DeviceEnd) → d < length r.seats → IsEndOf (seat_of r d) (get_or ends d x)) → All FiresOnlyWhatItBegan r.seats
ends_fire r ends each = All-from_get_or FiresOnlyWhatItBegan r.seats no_seat (λ d l. (each d (record { given = 0; thread = 0; callbacks = 0 }) l).whole.fired)

pub as_many : (rows : List Row) → AreAllRows rows → (n : ℕ) → n ≡ length (gathered rows).seats → All (λ r. n ≡ length r.seats) rows
as_many [] a n is k d l = absurd (let s = a.of_one.some_row in omega arith)
as_many (r ∷ rs) a n is k d l =
    let P = λ (s : Row). latches s ≡ a.of_one.registry in
    let same = length_gathered r rs in
    let count = seat_count a.of_one.registry r (All-head P r rs a.of_one.of_registry) in
    All-weaker P (λ (s : Row). n ≡ length s.seats) (λ s of. (let c = seat_count a.of_one.registry s of in omega arith)) (r ∷ rs) a.of_one.of_registry k d l

pub if_both : {T E : Type 0} (r : Result T E) (P Q R : T → Type 0) → ((x : T) → P x → Q x → R x) → IfOk r P → IfOk r Q → IfOk r R
if_both (Ok x) P Q R f p q = f x p q
if_both (Err e) P Q R f p q = tt
