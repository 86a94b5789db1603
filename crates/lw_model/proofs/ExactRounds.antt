-- The tests of rounds and orders hold exactly where that rule does.
use Rattle.std.proofs.Common.{◌≡◌, ℕ, ◌+◌, ◌<◌, nat_lt, nat_le, true, not, ◌&&◌, ◌||◌, List, [], ◌∷◌, ◌++◌, map, length, reverse, Option, Some, None, refl, sym, subst, inl, inr, arith, Decides, IsTrue}
use Rattle.std.specs.List.{list_all, flat_map, enumerate_from, AllByRecursion}
use Rattle.std.proofs.lemmas.Bool.{and_parts, and_from, ltb-true, lt-ltb, le-ltb, cases_lt}
use Rattle.std.proofs.lemmas.Bool.Decides.{Decides-at, Decides-like, Decides-and}
use Rattle.lw_model.specs.declared.record.Record.{Record}
use Rattle.lw_model.specs.declared.record.Span.{Span}
use Rattle.lw_base.specs.declared.moves.Round.{Round}
use Rattle.lw_model.specs.OwnOrder.{with_past}
use Rattle.lw_base.specs.Plan.{free_plan}
use Rattle.lw_base.specs.Limits.{standard}
use Rattle.lw_model.specs.Lines.{round_line, round_size}
use Rattle.lw_model.specs.Same.{is_same_order}
use Rattle.lw_model.specs.Rounds.{RoundsHold, RoundsAndOrders, round_fits, row_fits, time_before}
use Rattle.lw_model.specs.Verdict.{Test, each_line, against, round_tests, clock_tests, rounds_and_orders}
use Rattle.lw_model.proofs.Passing.{passes, list_all-flat_map}
use Rattle.lw_model.proofs.Sameness.{Tells-order}
use Rattle.lw_model.proofs.Exact.{Decides-itself, Decides-le, Decides-lines, Decides-append, Decides-listed}

abbrev RowsFit : Record → Round → Type 0
RowsFit r x = IsTrue (list_all (λ p. row_fits r p.0 p.1) (with_past [] x.rows))

abbrev OrdersFit : Record → Round → Type 0
OrdersFit r x = x.orders ≡ free_plan standard r.reactors x.rows

round_one : (r : Record) (span : Span) (line : ℕ) (past : List Round) (x : Round) → Decides (passes (round_tests r span line past x)) (IsTrue (round_fits r.period span past x) × (RowsFit r x × OrdersFit r x))
round_one r span line past x =
    let rows = each_line (λ i. line + 1 + i) (row_fits r) x.rows in
    let orders = against is_same_order (line + round_size x) (line + 1 + length x.rows) (map (λ o. Some o) (free_plan standard r.reactors x.rows)) x.orders in
    Decides-and (round_fits r.period span past x) (passes (rows ++ orders)) (Decides-itself (round_fits r.period span past x))
    (Decides-append rows orders (Decides-lines (λ i. line + 1 + i) (row_fits r) x.rows)
    (Decides-listed is_same_order Tells-order (line + round_size x) (line + 1 + length x.rows) (free_plan standard r.reactors x.rows) x.orders))

abbrev RoundsFrom : Record → Span → List Round → List Round → Type 0
RoundsFrom r span past xs = IsTrue (list_all (λ p. round_fits r.period span p.0 p.1) (with_past past xs)) × (AllByRecursion (RowsFit r) xs × AllByRecursion (OrdersFit r) xs)

rounds_from : (r : Record) (span : Span) (n : ℕ) (past xs : List Round)
    → Decides (list_all (λ p. passes (round_tests r span (round_line r p.0) p.1.0 p.1.1)) (enumerate_from n (with_past past xs))) (RoundsFrom r span past xs)
rounds_from r span n past [] = (λ e. (refl, (tt, tt)), λ h. refl)
rounds_from r span n past (x ∷ xs) =
    let first = passes (round_tests r span (round_line r n) past x) in
    let rest = list_all (λ p. passes (round_tests r span (round_line r p.0) p.1.0 p.1.1)) (enumerate_from (n + 1) (with_past (x ∷ past) xs)) in
    let fits = round_fits r.period span past x in
    let fit = list_all (λ p. round_fits r.period span p.0 p.1) (with_past (x ∷ past) xs) in
    Decides-like (first && rest)
    (λ h. (and_from fits fit h.0.0 h.1.0, ((h.0.1.0, h.1.1.0), (h.0.1.1, h.1.1.1))))
    (λ h. let a = and_parts fits fit h.0 in ((a.0, (h.1.0.0, h.1.1.0)), (a.1, (h.1.0.1, h.1.1.1))))
    (Decides-and first rest (round_one r span (round_line r n) past x) (rounds_from r span (n + 1) (x ∷ past) xs))

-- an implication between two orders
below_implies : (m n a b : ℕ) → Decides (not (nat_lt m n) || nat_lt a b) (m < n → a < b)
below_implies m n a b = elim (cases_lt m n) [
  | inl lt ↦ (λ e less. ltb-true a b (subst (λ t. (not t || nat_lt a b) ≡ true) (lt-ltb m n lt) e), λ h. subst (λ t. (not t || nat_lt a b) ≡ true) (sym (lt-ltb m n lt)) (lt-ltb a b (h lt)))
  | inr ge ↦ (λ e less. absurd (omega arith), λ h. subst (λ t. (not t || nat_lt a b) ≡ true) (sym (le-ltb m n ge)) refl)
]

clock_exact : (r : Record) (span : Span) → Decides (passes (clock_tests r span)) (RoundsHold r span)
clock_exact r span =
    let each = flat_map (λ p. round_tests r span (round_line r p.0) p.1.0 p.1.1) (enumerate_from 0 (with_past [] r.rounds)) in
    let last = not (nat_lt (length r.rounds) 10000) || nat_lt span.last (time_before span.first (reverse r.rounds) + r.period) in
    Decides-like (nat_le span.first span.last && (last && passes each))
    (λ h. record { clock = h.0; each = h.1.1.0; rows = h.1.1.1.0; orders = h.1.1.1.1; none_overdue = h.1.0 })
    (λ h. (h.clock, (h.none_overdue, (h.each, (h.rows, h.orders)))))
    (Decides-and (nat_le span.first span.last) (last && passes each) (Decides-le span.first span.last)
    (Decides-and last (passes each) (below_implies (length r.rounds) 10000 span.last (time_before span.first (reverse r.rounds) + r.period))
    (Decides-at (passes each) (list_all (λ p. passes (round_tests r span (round_line r p.0) p.1.0 p.1.1)) (enumerate_from 0 (with_past [] r.rounds)))
    (list_all-flat_map (λ (e : Test). e.1) (λ p. round_tests r span (round_line r p.0) p.1.0 p.1.1) (enumerate_from 0 (with_past [] r.rounds)))
    (rounds_from r span 0 [] r.rounds))))

exact_at : (r : Record) (o : Option Span) → Decides (passes (elim o [ None ↦ [] | Some span ↦ clock_tests r span ])) (elim o [ None ↦ Unit {0} | Some span ↦ RoundsHold r span ])
exact_at r None = (λ e. tt, λ h. refl)
exact_at r (Some span) = clock_exact r span

pub rounds_and_orders-exact : (r : Record) → Decides (passes (rounds_and_orders r)) (RoundsAndOrders r)
rounds_and_orders-exact r = exact_at r r.span
