-- Two rows are joined seat by seat.
use Rattle.std.proofs.Common.{◌≡◌, ℕ, zero, suc, ◌<◌, List, [], ◌∷◌, length, map, drop, set, get_or, refl, sym, ap, arith, All}
use Rattle.std.proofs.lemmas.List.Elements.{All-nil, All-cons}
use Rattle.lw_latch.specs.DeviceEnds.{DeviceLatch, SeatEnd, both_ends}
use Rattle.lw_device.specs.Rows.{both_seats}

-- the first d are joined, and these others are to be
abbrev pub both_from : ℕ → List SeatEnd → List SeatEnd → List SeatEnd
both_from zero es fs = both_seats es fs
both_from (suc d) [] fs = []
both_from (suc d) (e ∷ es) fs = e ∷ both_from d es fs

pub both_step : (d : ℕ) (es fs : List SeatEnd) (f x : SeatEnd) → d < length es → both_from (suc d) (set es d (both_ends (get_or es d x) f)) fs ≡ both_from d es (f ∷ fs)
both_step d [] fs f x l = absurd (omega arith)
both_step zero (e ∷ es) fs f x l = refl
both_step (suc d) (e ∷ es) fs f x l = ap (λ (r : List SeatEnd). e ∷ r) (both_step d es fs f x (omega arith))

pub both_end : (d : ℕ) (es : List SeatEnd) → both_from d es [] ≡ es
both_end zero [] = refl
both_end zero (e ∷ es) = refl
both_end (suc d) [] = refl
both_end (suc d) (e ∷ es) = ap (λ (r : List SeatEnd). e ∷ r) (both_end d es)

abbrev pub latch_of : SeatEnd → DeviceLatch
latch_of e = e.latch

-- the others are of the latches of those that are still to be joined
abbrev pub Matches : ℕ → List SeatEnd → List SeatEnd → Type 0
Matches d es fs = map latch_of fs ≡ drop d (map latch_of es)

pub match_here : (d : ℕ) (es fs : List SeatEnd) (f x : SeatEnd) → Matches d es (f ∷ fs) → (d < length es) × (f.latch ≡ (get_or es d x).latch)
match_here zero [] fs f x m = absurd (let n = ap length m in omega arith)
match_here zero (e ∷ es) fs f x m = (omega arith, ap (λ (l : List DeviceLatch). get_or l 0 f.latch) m)
match_here (suc d) [] fs f x m = absurd (let n = ap length m in omega arith)
match_here (suc d) (e ∷ es) fs f x m = let r = match_here d es fs f x m in (let a = r.0 in omega arith, r.1)

pub match_next : (d : ℕ) (es fs : List SeatEnd) (f x : SeatEnd) → Matches d es (f ∷ fs) → Matches (suc d) (set es d (both_ends (get_or es d x) f)) fs
match_next zero [] fs f x m = absurd (let n = ap length m in omega arith)
match_next zero (e ∷ es) fs f x m = ap (λ (l : List DeviceLatch). drop 1 l) m
match_next (suc d) [] fs f x m = absurd (let n = ap length m in omega arith)
match_next (suc d) (e ∷ es) fs f x m = match_next d es fs f x m

-- the first of what is left stands in its place
pub next_left : {X : Type 0} (n : ℕ) (xs ys : List X) (x d : X) → drop n xs ≡ x ∷ ys → (n < length xs) × (get_or xs n d ≡ x) × (ys ≡ drop (suc n) xs)
next_left zero [] ys x d e = absurd (let l = ap length e in omega arith)
next_left zero (z ∷ xs) ys x d e = (omega arith, ap (λ l. get_or l 0 x) e, sym (ap (drop 1) e))
next_left (suc n) [] ys x d e = absurd (let l = ap length e in omega arith)
next_left (suc n) (z ∷ xs) ys x d e = let r = next_left n xs ys x d e in ((let a = r.0 in omega arith), r.1, r.2)

-- what holds of the one that is joined next, and of those behind it, holds of all that are still to be joined
pub drop_step : {X : Type 0} (P : X → Type 0) (d : ℕ) (es : List X) (y x : X) → d < length es → P (get_or es d x) → All P (drop (suc d) (set es d y)) → All P (drop d es)
drop_step P d [] y x l here rest = absurd (omega arith)
drop_step P zero (e ∷ es) y x l here rest = All-cons P e es here rest
drop_step P (suc d) (e ∷ es) y x l here rest = drop_step P d es y x (omega arith) here rest

pub none_to_join : (P : SeatEnd → Type 0) (d : ℕ) (es : List SeatEnd) → Matches d es [] → All P (drop d es)
none_to_join P zero [] m = All-nil P
none_to_join P zero (e ∷ es) m = absurd (let n = ap length m in omega arith)
none_to_join P (suc d) [] m = All-nil P
none_to_join P (suc d) (e ∷ es) m = none_to_join P d es m
