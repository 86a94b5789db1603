-- The rows of a round that fit.
use Rattle.std.proofs.Common.{◌≡◌, ℕ, zero, suc, ◌+◌, ◌<◌, ◌≤◌, nat_lt, nat_le, Bool, true, false, cond, ◌&&◌, List, [], ◌∷◌, length, map, take, replicate, Option, Some, None, refl, sym, ap, ◌∙◌, arith}
use Rattle.std.specs.List.{All}
use Rattle.std.proofs.lemmas.Bool.{and_parts, ltb-true}
use Rattle.std.proofs.lemmas.Bool.Decides.{nat_tests}
use Rattle.std.proofs.lemmas.List.Elements.{All-cons, All-nil}
use Rattle.lw_base.specs.declared.moves.Row.{Row}
use Rattle.lw_model.specs.declared.record.Record.{Record}
use Rattle.lw_model.specs.Threads.{thread_count}
use Rattle.lw_model.specs.Rounds.{row_fits}
use Rattle.lw_model.proofs.Printed.{parts}
use Rattle.lw_judge_threads.specs.Firsts.{first_unfit}
use Rattle.lw_judge_rounds.specs.RoundsAt.{AllowAll, least_thread}
use Rattle.lw_base.specs.Masks.{every_reactor}

-- a row's thread is above that of the row before
abbrev ascends : List Row → Row → Bool
ascends past w = elim past [ [] ↦ true | v ∷ rest ↦ nat_lt v.thread w.thread ]

ascends_is : (past : List Row) (w : Row) → ascends past w ≡ nat_le (least_thread past) w.thread
ascends_is [] w = least w.thread
  where
    least : (n : ℕ) → true ≡ nat_le 0 n
    least n = grind (arith, nat_tests)
ascends_is (v ∷ past) w = above v.thread w.thread
  where
    above : (m n : ℕ) → nat_lt m n ≡ nat_le (m + 1) n
    above m n = grind (arith, nat_tests)

pub not_less : (m n : ℕ) → n ≤ m → nat_lt m n ≡ false
not_less m n low = grind (arith, nat_tests)

pub row_fits_is : (r : Record) (past : List Row) (w : Row) (least : ℕ) → least ≡ least_thread past
    → (nat_lt w.thread (length r.threads) && nat_lt w.reactor r.reactors && nat_le least w.thread) ≡ row_fits r past w
row_fits_is r past w least is =
    ap (λ n. nat_lt w.thread n && nat_lt w.reactor r.reactors && nat_le least w.thread) (parts r).threads
    ∙ ap (λ b. nat_lt w.thread (thread_count r.script) && nat_lt w.reactor r.reactors && b) (ap (λ k. nat_le k w.thread) is ∙ sym (ascends_is past w))

-- ---- All of them

none_unfit : {X : Type 0} (b : Bool) (o : Option X) (x : X) → cond b o (Some x) ≡ None → (b ≡ true) × (o ≡ None)
none_unfit true o x e = (refl, e)
none_unfit false o x e = cc

le_is : (m n : ℕ) → nat_le m n ≡ true → m ≤ n
le_is m n e = grind (arith, nat_tests)

few_from : (r : Record) (n : ℕ) (past rows : List Row) → first_unfit (row_fits r) n past rows ≡ None → least_thread past ≤ thread_count r.script → least_thread past + length rows ≤ thread_count r.script
few_from r n past [] e low = omega (arith, low)
few_from r n past (w ∷ rows) e low =
    let h = none_unfit (row_fits r past w) (first_unfit (row_fits r) (n + 1) (w ∷ past) rows) n e in
    let g = and_parts (nat_lt w.thread (thread_count r.script) && nat_lt w.reactor r.reactors) (ascends past w) h.0 in
    let a = and_parts (nat_lt w.thread (thread_count r.script)) (nat_lt w.reactor r.reactors) g.0 in
    let there = ltb-true w.thread (thread_count r.script) a.0 in
    let above = le_is (least_thread past) w.thread (sym (ascends_is past w) ∙ g.1) in
    let rest = few_from r (n + 1) (w ∷ past) rows h.1 (omega (arith, there)) in
    omega (arith, rest, above)

-- they are at most one for each thread
pub rows_few : (r : Record) (rows : List Row) → None ≡ first_unfit (row_fits r) 0 [] rows → length rows ≤ thread_count r.script
rows_few r rows e = omega (arith, few_from r 0 [] rows (sym e) (omega arith))

reactors_from : (r : Record) (n : ℕ) (past rows : List Row) → first_unfit (row_fits r) n past rows ≡ None → All (λ w. w.reactor < r.reactors) rows
reactors_from r n past [] e = All-nil (λ w. w.reactor < r.reactors)
reactors_from r n past (w ∷ rows) e =
    let h = none_unfit (row_fits r past w) (first_unfit (row_fits r) (n + 1) (w ∷ past) rows) n e in
    let g = and_parts (nat_lt w.thread (thread_count r.script) && nat_lt w.reactor r.reactors) (ascends past w) h.0 in
    let a = and_parts (nat_lt w.thread (thread_count r.script)) (nat_lt w.reactor r.reactors) g.0 in
    All-cons (λ w. w.reactor < r.reactors) w rows (ltb-true w.reactor r.reactors a.1) (reactors_from r (n + 1) (w ∷ past) rows h.1)

-- each on a reactor
pub rows_on_reactors : (r : Record) (rows : List Row) → None ≡ first_unfit (row_fits r) 0 [] rows → All (λ w. w.reactor < r.reactors) rows
rows_on_reactors r rows e = reactors_from r 0 [] rows (sym e)

-- ---- Masks

-- as many masks as there are rows
pub masks_of : (rows : List Row) (n m : ℕ) → length rows ≤ n → take (length rows) (replicate n m) ≡ map (λ w. m) rows
masks_of [] n m low = refl
masks_of (w ∷ rows) (suc n) m low = ap (λ l. m ∷ l) (masks_of rows n m (omega (arith, low)))
masks_of (w ∷ rows) zero m low = absurd (omega (arith, low))

-- those of the rows of a round that fit
pub masks_of_rows : (r : Record) (told rows : List Row) (masks : List ℕ) → AllowAll r masks → None ≡ first_unfit (row_fits r) 0 [] told → rows ≡ told → take (length rows) masks ≡ map (λ w. every_reactor) rows
masks_of_rows r told rows masks all fit same =
    ap (take (length rows)) all
    ∙ masks_of rows (length r.threads) every_reactor (omega (arith, ap length same, rows_few r told fit, (parts r).threads))
