-- How the row of the app joins the rows that it takes in with its own.
use Rattle.std.proofs.Common.{◌≡◌, ℕ, zero, suc, ◌+◌, ◌<◌, ◌==◌, true, false, List, [], ◌∷◌, ◌++◌, length, Some, None, refl, sym, ap, ◌∙◌, arith}
use Rattle.std.specs.List.{cons_option, list_all, AllByRecursion}
use Rattle.std.proofs.lemmas.Bool.{and_parts, and_from, eqb-true, eq-eqb, false≢true}
use Rattle.std.proofs.lemmas.List.{append-nil}
use Rattle.std.proofs.lemmas.List.Elements.{filter_map-append}
use Rattle.lw_model.specs.declared.record.Answer.{Answer}
use Rattle.lw_model.specs.declared.record.Answer.TheVariants as answer
use Rattle.lw_model.specs.Holding.{is_given}
use Rattle.lw_model.specs.Devices.{is_began}
use Rattle.lw_whole.specs.Letters.{Letter, Note}
use Rattle.lw_whole.specs.Notes.{note_at, both_notes, both_rows, joined, row_in, rows_in, knows_open}
use Rattle.lw_history.specs.Histories.{Event, ran, runs_of}
use Rattle.lw_history.specs.Noting.{note_fired, note_after, with_note}

-- ---- one row more

joined_push : (own : List Note) (rows : List (List Note)) (ns : List Note) → joined own (rows ++ ns ∷ []) ≡ both_rows (joined own rows) ns
joined_push own [] ns = refl
joined_push own (r ∷ rest) ns = joined_push (both_rows own r) rest ns

rows_more : (h : List Event) (x : Letter) (now : List (ℕ × Letter)) → rows_in (runs_of (ran x now ∷ h)) ≡ rows_in (runs_of h) ++ cons_option (row_in x) []
rows_more h x now = filter_map-append row_in (runs_of h) (x ∷ [])

pub rows_taken_in : (own : List Note) (h : List Event) (x : Letter) (now : List (ℕ × Letter)) (ns : List Note) → row_in x ≡ Some ns → joined own (rows_in (runs_of (ran x now ∷ h))) ≡ both_rows (joined own (rows_in (runs_of h))) ns
rows_taken_in own h x now ns e = ap (joined own) (rows_more h x now ∙ ap (λ o. rows_in (runs_of h) ++ cons_option o []) e) ∙ joined_push own (rows_in (runs_of h)) ns

pub none_taken_in : (own : List Note) (h : List Event) (x : Letter) (now : List (ℕ × Letter)) → row_in x ≡ None → joined own (rows_in (runs_of (ran x now ∷ h))) ≡ joined own (rows_in (runs_of h))
none_taken_in own h x now e = ap (joined own) (rows_more h x now ∙ ap (λ o. rows_in (runs_of h) ++ cons_option o []) e ∙ append-nil (rows_in (runs_of h)))

-- ---- a device that the joint row knows open

length_both : (own r : List Note) → length (both_rows own r) ≡ length own
length_both [] r = refl
length_both (n ∷ own) [] = refl
length_both (n ∷ own) (m ∷ r) = omega (arith, length_both own r)

knows_both : (own r : List Note) (d : ℕ) → d < length own → knows_open (note_at (both_rows own r) d) ≡ true → (knows_open (note_at own d) ≡ true) × (knows_open (note_at r d) ≡ true)
knows_both [] r d l e = absurd (omega (arith, l))
knows_both (n ∷ own) [] d l e = (e, refl)
knows_both (n ∷ own) (m ∷ r) zero l e =
    let both = and_parts (n.found + m.found == 0) (n.begun + m.begun == 0) e in
    let found : n.found + m.found ≡ 0 = eqb-true (n.found + m.found) 0 both.0 in
    let begun : n.begun + m.begun ≡ 0 = eqb-true (n.begun + m.begun) 0 both.1 in (
      and_from (n.found == 0) (n.begun == 0) (eq-eqb n.found 0 (omega (arith, found))) (eq-eqb n.begun 0 (omega (arith, begun))),
      and_from (m.found == 0) (m.begun == 0) (eq-eqb m.found 0 (omega (arith, found))) (eq-eqb m.begun 0 (omega (arith, begun))),
    )
knows_both (n ∷ own) (m ∷ r) (suc d) l e = knows_both own r d (omega (arith, l)) e

pub all_know : (own : List Note) (rows : List (List Note)) (d : ℕ) → d < length own → knows_open (note_at (joined own rows) d) ≡ true → (knows_open (note_at own d) ≡ true) × (list_all (λ ns. knows_open (note_at ns d)) rows ≡ true)
all_know own [] d l e = (e, refl)
all_know own (r ∷ rest) d l e =
    let after = all_know (both_rows own r) rest d (omega (arith, l, length_both own r)) e in
    let both = knows_both own r d l after.0 in
    (both.0, and_from (knows_open (note_at r d)) (list_all (λ ns. knows_open (note_at ns d)) rest) both.1 after.1)

-- ---- what changes in the own row changes in the joint one

module _ (change : Note → Note) (when : Note → Type 0) (either_way : (n m : Note) → when m → both_notes (change n) m ≡ change (both_notes n m)) where
  both_changed : (own r : List Note) (d : ℕ) → when (note_at r d) → both_rows (with_note own d change) r ≡ with_note (both_rows own r) d change
  both_changed [] r d h = refl
  both_changed (n ∷ own) [] zero h = refl
  both_changed (n ∷ own) [] (suc d) h = refl
  both_changed (n ∷ own) (m ∷ r) zero h = ap (λ j. j ∷ both_rows own r) (either_way n m h)
  both_changed (n ∷ own) (m ∷ r) (suc d) h = ap (λ l. both_notes n m ∷ l) (both_changed own r d h)

  joined_changed : (own : List Note) (rows : List (List Note)) (d : ℕ) → AllByRecursion (λ ns. when (note_at ns d)) rows → joined (with_note own d change) rows ≡ with_note (joined own rows) d change
  joined_changed own [] d h = refl
  joined_changed own (r ∷ rest) d h = ap (λ l. joined l rest) (both_changed own r d h.0) ∙ joined_changed (both_rows own r) rest d h.1

-- a row that began nothing, where that matters
abbrev Unbegun : Answer → Note → Type 0
Unbegun a m = is_began a ≡ true → m.begun ≡ 0

after_both : (t : ℕ) (a : Answer) → is_given a ≡ false → (n m : Note) → Unbegun a m → both_notes (note_after t a n) m ≡ note_after t a (both_notes n m)
after_both t (answer.Given k) e n m h = absurd (false≢true (sym e))
after_both t (answer.Began k) e n m h =
    let one : 1 + m.begun ≡ 1 = omega (arith, h refl) in
    ap (λ i. record (both_notes n m) { begun = i; count = k; began_by = t }) one
after_both t answer.Shut e n m h =
    let found : n.found + 1 + m.found ≡ n.found + m.found + 1 = omega arith in
    ap (λ i. record (both_notes n m) { found = i }) found
after_both t answer.Already e n m h =
    let found : n.found + 1 + m.found ≡ n.found + m.found + 1 = omega arith in
    ap (λ i. record (both_notes n m) { found = i }) found
after_both t _ e n m h = refl

fired_both : (n m : Note) → Unit {0} → both_notes (note_fired n) m ≡ note_fired (both_notes n m)
fired_both n m h =
    let fired : n.fired + 1 + m.fired ≡ n.fired + m.fired + 1 = omega arith in
    ap (λ i. record (both_notes n m) { fired = i }) fired

unbegun : (a : Answer) (d : ℕ) (rows : List (List Note)) → (is_began a ≡ true → list_all (λ ns. knows_open (note_at ns d)) rows ≡ true) → AllByRecursion (λ ns. Unbegun a (note_at ns d)) rows
unbegun a d [] h = tt
unbegun a d (r ∷ rest) h =
    let parts = λ (b : is_began a ≡ true). and_parts (knows_open (note_at r d)) (list_all (λ ns. knows_open (note_at ns d)) rest) (h b) in
    (λ b. eqb-true (note_at r d).begun 0 (and_parts ((note_at r d).found == 0) ((note_at r d).begun == 0) (parts b).0).1, unbegun a d rest (λ b. (parts b).1))

pub lines_join : (own : List Note) (rows : List (List Note)) (t d : ℕ) (a : Answer) → is_given a ≡ false → (is_began a ≡ true → list_all (λ ns. knows_open (note_at ns d)) rows ≡ true)
    → joined (with_note own d (note_after t a)) rows ≡ with_note (joined own rows) d (note_after t a)
lines_join own rows t d a e h = joined_changed (note_after t a) (Unbegun a) (after_both t a e) own rows d (unbegun a d rows h)

pub calls_join : (own : List Note) (rows : List (List Note)) (d : ℕ) → joined (with_note own d note_fired) rows ≡ with_note (joined own rows) d note_fired
calls_join own rows d = joined_changed note_fired (λ m. Unit {0}) fired_both own rows d (nothing rows)
  where
    nothing : (rows : List (List Note)) → AllByRecursion (λ ns. Unit {0}) rows
    nothing [] = tt
    nothing (r ∷ rest) = (tt, nothing rest)
