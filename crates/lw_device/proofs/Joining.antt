-- What a seat knows that has taken in others.
use Rattle.std.proofs.Common.{◌≡◌, ℕ, zero, suc, ◌+◌, ◌<◌, if◌then◌else◌, List, [], ◌∷◌, length, map, get_or, refl, sym, ap, subst, ◌∙◌, arith, All, eq-eqb, ne_eqb}
use Rattle.std.proofs.lemmas.List.Elements.{All-head, All-tail}
use mathlib.Core.Logic.{dite}
use native.Mathlib.Decide.{ℕ_discrete}
use Rattle.lw_base.specs.Totals.{total}
use Rattle.lw_latch.specs.DeviceEnds.{DeviceLatch, SeatEnd, both_ends}
use Rattle.lw_device.specs.Rows.{Row, seat_of, no_seat, both_seats, both_rows, gathered_into, seats_of}

-- a seat that has taken in these, one after the other
abbrev pub joined : SeatEnd → List SeatEnd → SeatEnd
joined e [] = e
joined e (f ∷ fs) = joined (both_ends e f) fs

pub seat_both : (es fs : List SeatEnd) (d : ℕ) (x : SeatEnd) → d < length es → length fs ≡ length es → get_or (both_seats es fs) d x ≡ both_ends (get_or es d x) (get_or fs d x)
seat_both [] fs d x l n = absurd (omega arith)
seat_both (e ∷ es) [] d x l n = absurd (omega arith)
seat_both (e ∷ es) (f ∷ fs) zero x l n = refl
seat_both (e ∷ es) (f ∷ fs) (suc d) x l n = seat_both es fs d x (omega arith) (omega arith)

pub length_both : (es fs : List SeatEnd) → length (both_seats es fs) ≡ length es
length_both [] fs = refl
length_both (e ∷ es) [] = refl
length_both (e ∷ es) (f ∷ fs) = ap suc (length_both es fs)

pub latches_both : (es fs : List SeatEnd) → map (λ (e : SeatEnd). e.latch) (both_seats es fs) ≡ map (λ (e : SeatEnd). e.latch) es
latches_both [] fs = refl
latches_both (e ∷ es) [] = refl
latches_both (e ∷ es) (f ∷ fs) = ap (λ (l : List DeviceLatch). e.latch ∷ l) (latches_both es fs)

pub length_gathered : (r : Row) (rs : List Row) → length (gathered_into r rs).seats ≡ length r.seats
length_gathered r [] = refl
length_gathered r (s ∷ rs) = length_gathered (both_rows r s) rs ∙ length_both r.seats s.seats

pub seat_gathered : (d : ℕ) (r : Row) (rs : List Row) → d < length r.seats → All (λ s. length s.seats ≡ length r.seats) rs → seat_of (gathered_into r rs) d ≡ joined (seat_of r d) (seats_of d rs)
seat_gathered d r [] l all = refl
seat_gathered d r (s ∷ rs) l all =
    let P = λ (s : Row). length s.seats ≡ length r.seats in
    let long = length_both r.seats s.seats in
    let same = All-head P s rs all in
    seat_gathered d (both_rows r s) rs (omega arith) (subst (λ (n : ℕ). All (λ (s : Row). length s.seats ≡ n) rs) (sym long) (All-tail P s rs all))
    ∙ ap (λ (e : SeatEnd). joined e (seats_of d rs)) (seat_both r.seats s.seats d no_seat l same)

-- what is added up at each join is added up
pub joined_sum : (f : SeatEnd → ℕ) → ((e g : SeatEnd) → f (both_ends e g) ≡ f e + f g) → (e : SeatEnd) (fs : List SeatEnd) → f (joined e fs) ≡ total f (e ∷ fs)
joined_sum f adds e [] = omega arith
joined_sum f adds e (g ∷ gs) = let r = joined_sum f adds (both_ends e g) gs in let a = adds e g in omega arith

pub joined_latch : (e : SeatEnd) (fs : List SeatEnd) → (joined e fs).latch ≡ e.latch
joined_latch e [] = refl
joined_latch e (g ∷ gs) = joined_latch (both_ends e g) gs

abbrev pub begun_of : SeatEnd → ℕ
begun_of e = e.view.begun

-- this seat began, and was told what the other knows of it
pub record Began (j e : SeatEnd) : Type 0 where
  pub begun : e.view.begun ≡ 1
  pub count : j.view.count ≡ e.view.count
  pub opens_then : j.view.opens_then ≡ e.view.opens_then
  pub by : j.began_by ≡ e.began_by

-- where one of these began, it is known which, and what it was told
pub joined_began : (e : SeatEnd) (fs : List SeatEnd) → total begun_of (e ∷ fs) ≡ 1 → (k : ℕ) × (x : SeatEnd) × (k < length (e ∷ fs)) × (get_or (e ∷ fs) k x ≡ x) × Began (joined e fs) x
joined_began e [] one = (0, e, omega arith, refl, record { begun = omega arith; count = refl; opens_then = refl; by = refl })
joined_began e (g ∷ gs) one =
    let r = joined_began (both_ends e g) gs (omega arith) in
    from r.0 r.1 r.2 r.3 r.4
  where
    both : Began (joined (both_ends e g) gs) (both_ends e g) → (k : ℕ) × (x : SeatEnd) × (k < length (e ∷ g ∷ gs)) × (get_or (e ∷ g ∷ gs) k x ≡ x) × Began (joined (both_ends e g) gs) x
    both b = dite (ℕ_discrete e.view.begun 0)
        (λ not_e. (
          1,
          g,
          omega arith,
          refl,
          record {
            begun = (let z = b.begun in omega arith);
            count = b.count ∙ ap (λ t. if t then g.view.count else e.view.count) (eq-eqb e.view.begun 0 not_e);
            opens_then = b.opens_then ∙ ap (λ t. if t then g.view.opens_then else e.view.opens_then) (eq-eqb e.view.begun 0 not_e);
            by = b.by ∙ ap (λ t. if t then g.began_by else e.began_by) (eq-eqb e.view.begun 0 not_e);
          },
        ))
        (λ by_e. (
          0,
          e,
          omega arith,
          refl,
          record {
            begun = (let z = b.begun in omega arith);
            count = b.count ∙ ap (λ t. if t then g.view.count else e.view.count) (ne_eqb e.view.begun 0 by_e);
            opens_then = b.opens_then ∙ ap (λ t. if t then g.view.opens_then else e.view.opens_then) (ne_eqb e.view.begun 0 by_e);
            by = b.by ∙ ap (λ t. if t then g.began_by else e.began_by) (ne_eqb e.view.begun 0 by_e);
          },
        ))

    from : (k : ℕ) (x : SeatEnd) → k < length (both_ends e g ∷ gs) → get_or (both_ends e g ∷ gs) k x ≡ x → Began (joined (both_ends e g) gs) x
        → (k : ℕ) × (x : SeatEnd) × (k < length (e ∷ g ∷ gs)) × (get_or (e ∷ g ∷ gs) k x ≡ x) × Began (joined (both_ends e g) gs) x
    from zero x l is b = both (subst (λ (y : SeatEnd). Began (joined (both_ends e g) gs) y) (sym is) b)
    from (suc k) x l is b = (suc (suc k), x, omega arith, is, b)
