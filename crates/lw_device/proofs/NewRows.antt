-- The rows of a new registry get their seats.
use Rattle.std.proofs.Common.{◌≡◌, ℕ, ◌+◌, ◌<◌, ◌≤◌, List, [], ◌∷◌, ◌++◌, length, take, drop, get_or, set, refl, sym, ap, subst, ◌∙◌, arith, length-append, get_or-set_same, get_or-set_other}
use Rattle.std.proofs.lemmas.List.{get_or_default, get_or_push, get_or_append_left, map-append}
use Rattle.std.proofs.lemmas.List.Elements.{All-push}
use mathlib.Core.Logic.{dite}
use native.Mathlib.Decide.{ℕ_discrete}
use Rattle.lw_latch.specs.DeviceEnds.{DeviceLatch, SeatEnd, new_seat, AreNewSeats}
use Rattle.lw_device.specs.Rows.{Row, new_row, AreNewRows}

-- a row with one more seat
abbrev pub with_one : Row → SeatEnd → Row
with_one r e = record r { seats = r.seats ++ e ∷ [] }

-- one more row has its seat
pub added_one : (old rows : List Row) (seats : List SeatEnd) (n : ℕ) (new x : Row) (seat : SeatEnd)
    → n < length old → length rows ≡ length old → new ≡ with_one (get_or rows n x) seat → ((e : SeatEnd) → get_or seats n e ≡ seat)
    → ((t : ℕ) (r : Row) (e : SeatEnd) → t < n → get_or rows t r ≡ with_one (get_or old t r) (get_or seats t e))
    → ((t : ℕ) (r : Row) → n ≤ t → get_or rows t r ≡ get_or old t r)
    → (t : ℕ) (r : Row) (e : SeatEnd) → t < n + 1 → get_or (set rows n new) t r ≡ with_one (get_or old t r) (get_or seats t e)
added_one old rows seats n new x seat l long is at before later t r e b = dite (ℕ_discrete t n)
    (λ same. subst (λ (k : ℕ). get_or (set rows n new) k r ≡ with_one (get_or old k r) (get_or seats k e)) (sym same)
    (get_or-set_same rows n new r (omega arith) ∙ is ∙ (λ i. with_one ((later n x (omega arith) ∙ get_or_default old n x r l) i) (sym (at e) i))))
    (λ differ. get_or-set_other rows n t new r differ ∙ before t r e (omega arith))

pub the_others : (old rows : List Row) (n : ℕ) (new : Row) → ((t : ℕ) (r : Row) → n ≤ t → get_or rows t r ≡ get_or old t r) → (t : ℕ) (r : Row) → n + 1 ≤ t → get_or (set rows n new) t r ≡ get_or old t r
the_others old rows n new later t r b = get_or-set_other rows n t new r (λ e. omega arith) ∙ later t r (omega arith)

-- one more row without seats
pub one_more_row : (old new : List Row) (n : ℕ) → new ≡ old ++ new_row [] n ∷ [] → length old ≡ n
    → ((t : ℕ) (r : Row) → t < n → get_or old t r ≡ new_row [] t) → (t : ℕ) (r : Row) → t < n + 1 → get_or new t r ≡ new_row [] t
one_more_row old new n is long before t r b = ap (λ (l : List Row). get_or l t r) is ∙ dite (ℕ_discrete t n)
    (λ same. get_or_push old (new_row [] n) r t (long ∙ sym same) ∙ ap (new_row []) (sym same))
    (λ differ. get_or_append_left old (new_row [] n ∷ []) r t (omega arith) ∙ before t r (omega arith))

-- one more device
pub one_more_device : (count threads : ℕ) (old new : List Row) (seats : List SeatEnd) → AreNewRows count threads old → AreNewSeats threads seats → length new ≡ length old
    → ((t : ℕ) (r : Row) (e : SeatEnd) → t < length old → get_or new t r ≡ with_one (get_or old t r) (get_or seats t e)) → AreNewRows (count + 1) threads new
one_more_device count threads old new seats a s same each =
    let registry = a.registry in
    let n = a.row_count in
    let c = a.device_count in
    record {
      registry = registry ++ s.latch ∷ [];
      device_count = length-append registry (s.latch ∷ []) ∙ omega arith;
      for_threads = All-push (λ (l : DeviceLatch). l.seats ≡ threads) registry s.latch a.for_threads s.for_seats;
      row_count = same ∙ n;
      each_row = λ t r b. each t r (new_seat s.latch t) (omega arith) ∙ (λ i. with_one (a.each_row t r b i) (s.each_seat t (new_seat s.latch t) b i))
          ∙ (λ i. record { thread = t; seats = sym (map-append (λ (l : DeviceLatch). new_seat l t) registry (s.latch ∷ [])) i });
    }

-- a list that was lent out whole comes back whole
pub lent : {X : Type 0} (n : ℕ) (new old : List X) → length new ≡ length old → n ≡ length old → take n (new ++ drop (length new) old) ≡ new
lent n new old same is =
    let all : drop (length new) old ≡ [] = ap (λ (k : ℕ). drop k old) same ∙ drop_all old in
    ap (λ (l : List _). take n (new ++ l)) all ∙ ap (take n) (append_nil new) ∙ ap (λ (k : ℕ). take k new) (is ∙ sym same) ∙ take_all new
  where
    drop_all : {X : Type 0} (l : List X) → drop (length l) l ≡ []
    drop_all [] = refl
    drop_all (x ∷ l) = drop_all l

    take_all : {X : Type 0} (l : List X) → take (length l) l ≡ l
    take_all [] = refl
    take_all (x ∷ l) = ap (λ r. x ∷ r) (take_all l)

    append_nil : {X : Type 0} (l : List X) → l ++ [] ≡ l
    append_nil [] = refl
    append_nil (x ∷ l) = ap (λ r. x ∷ r) (append_nil l)
