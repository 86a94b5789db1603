-- The tests of rounds, one round behind another.
use Rattle.std.proofs.Common.{◌≡◌, ℕ, suc, ◌+◌, ◌<◌, ◌≤◌, min, nat_lt, nat_le, not, ◌||◌, Bool, cond, List, [], ◌∷◌, ◌++◌, length, map, flat_map, take, drop, reverse, get_or, Option, Some, None, IfSome, refl, sym, ap, ap₂, subst, ◌∙◌, arith}
use Rattle.std.specs.List.{enumerate_from, sum_by}
use Rattle.std.proofs.lemmas.List.{take_more, drop_more}
use Rattle.std.proofs.lemmas.List.Sums.{sum_by-cons, sum_by_push}
use Rattle.lw_base.specs.declared.moves.Round.{Round}
use Rattle.lw_base.specs.Limits.{standard}
use Rattle.lw_base.specs.Plan.{free_plan}
use Rattle.lw_model.specs.declared.record.Record.{Record}
use Rattle.lw_model.specs.declared.record.Span.{Span}
use Rattle.lw_model.specs.Lines.{clock_line, home_line, round_line, round_size}
use Rattle.lw_model.specs.OwnOrder.{with_past}
use Rattle.lw_model.specs.Rounds.{round_fits, row_fits, time_before}
use Rattle.lw_model.specs.Same.{is_same_order}
use Rattle.lw_model.specs.Verdict.{against, clock_tests, each_line, least_failing, round_tests}
use Rattle.lw_judge_threads.specs.Firsts.{at_line, first_unfit, lesser}
use Rattle.lw_judge_threads.proofs.Leasts.{least-append, least-cons, least-each_line, lesser_assoc, lesser_comm}
use Rattle.lw_judge_threads.proofs.Threads.{unfit_within}
use Rattle.lw_judge_rounds.specs.Differences.{first_difference}
use Rattle.lw_judge_rounds.proofs.Differing.{least_unplanned}

-- ---- One round

-- the first failing line of the orders of a round
abbrev pub unplanned : Record → ℕ → Round → Option ℕ
unplanned r line x = at_line (line + 1 + length x.rows) (first_difference 0 (free_plan standard r.reactors x.rows) x.orders)

-- a line at or above another
lesser_first : (a base : ℕ) (o : Option ℕ) → a ≤ base → lesser (Some a) (at_line base o) ≡ Some a
lesser_first a base None low = refl
lesser_first a base (Some p) low = ap Some (min_low a (base + p) (omega (arith, low)))
  where
    min_low : (m n : ℕ) → m ≤ n → min m n ≡ m
    min_low m n h = grind arith

-- the lines of orders are behind those of rows
below_is : (r : Record) (line : ℕ) (x : Round) (o below : Option ℕ) → o ≡ first_unfit (row_fits r) 0 [] x.rows → ((p : ℕ) → o ≡ Some p → below ≡ Some (line + 1 + p)) → (o ≡ None → below ≡ unplanned r line x)
    → below ≡ lesser (at_line (line + 1) (first_unfit (row_fits r) 0 [] x.rows)) (unplanned r line x)
below_is r line x None below is some none = none refl ∙ ap (λ q. lesser (at_line (line + 1) q) (unplanned r line x)) is
below_is r line x (Some p) below is some none =
    some p refl
    ∙ sym (lesser_first (line + 1 + p) (line + 1 + length x.rows) (first_difference 0 (free_plan standard r.reactors x.rows) x.orders) (omega (arith, within)))
    ∙ ap (λ q. lesser (at_line (line + 1) q) (unplanned r line x)) is
  where
    within : p < 0 + length x.rows
    within = subst (λ q. IfSome q (λ k. k < 0 + length x.rows)) (sym is) (unfit_within (row_fits r) 0 [] x.rows)

-- the first failing line of a round, by whether it fits, its first row that doesn't, and its orders
pub round_is : (r : Record) (span : Span) (line : ℕ) (past : List Round) (x : Round) (o below : Option ℕ) → o ≡ first_unfit (row_fits r) 0 [] x.rows
    → ((p : ℕ) → o ≡ Some p → below ≡ Some (line + 1 + p)) → (o ≡ None → below ≡ unplanned r line x)
    → lesser (cond (round_fits r.period span past x) None (Some line)) below ≡ least_failing (round_tests r span line past x)
round_is r span line past x o below is some none =
    ap (lesser (cond (round_fits r.period span past x) None (Some line)))
    (below_is r line x o below is some none
    ∙ ap₂ lesser (sym (least-each_line (λ i. line + 1 + i) (line + 1) (λ i. refl) (row_fits r) x.rows))
    (sym (least_unplanned (line + 1 + length x.rows) (line + round_size x) (free_plan standard r.reactors x.rows) x.orders (omega arith)))
    ∙ sym (least-append rows orders))
    ∙ sym (least-cons line (round_fits r.period span past x) (rows ++ orders))
  where
    rows : List (ℕ × Bool)
    rows = each_line (λ i. line + 1 + i) (row_fits r) x.rows

    orders : List (ℕ × Bool)
    orders = against is_same_order (line + round_size x) (line + 1 + length x.rows) (map (λ o. Some o) (free_plan standard r.reactors x.rows)) x.orders

-- ---- The rounds of a list

-- the first failing line of rounds of which the first has the line `line`, behind those of `past`
abbrev pub rounds_from : Record → Span → ℕ → List Round → List Round → Option ℕ
rounds_from r span line past [] = None
rounds_from r span line past (x ∷ xs) = lesser (least_failing (round_tests r span line past x)) (rounds_from r span (line + round_size x) (x ∷ past) xs)

least_from : (lines : ℕ → ℕ) (r : Record) (span : Span) (n : ℕ) (past xs : List Round) (line : ℕ) → ((k : ℕ) → lines (n + k) ≡ line + sum_by round_size (take k xs))
    → least_failing (flat_map (λ p. round_tests r span (lines p.0) p.1.0 p.1.1) (enumerate_from n (with_past past xs))) ≡ rounds_from r span line past xs
least_from lines r span n past [] line stand = refl
least_from lines r span n past (x ∷ xs) line stand =
    least-append (round_tests r span (lines n) past x) (flat_map (λ p. round_tests r span (lines p.0) p.1.0 p.1.1) (enumerate_from (n + 1) (with_past (x ∷ past) xs)))
    ∙ ap₂ lesser (ap (λ l. least_failing (round_tests r span l past x)) here) (least_from lines r span (n + 1) (x ∷ past) xs (line + round_size x) later)
  where
    first : n + 0 ≡ n
    first = omega arith

    here : lines n ≡ line
    here = omega (arith, sym (ap lines first), stand 0)

    next : (k : ℕ) → n + 1 + k ≡ n + suc k
    next k = omega arith

    later : (k : ℕ) → lines (n + 1 + k) ≡ line + round_size x + sum_by round_size (take k xs)
    later k = ap lines (next k) ∙ stand (suc k) ∙ omega (arith, sum_by-cons round_size x (take k xs))

-- of all rounds of a record
pub least_rounds : (r : Record) (span : Span) (line : ℕ) → line ≡ clock_line r + 1
    → least_failing (flat_map (λ p. round_tests r span (round_line r p.0) p.1.0 p.1.1) (enumerate_from 0 (with_past [] r.rounds))) ≡ rounds_from r span line [] r.rounds
least_rounds r span line is = least_from (round_line r) r span 0 [] r.rounds line (λ k. stand k)
  where
    none : (k : ℕ) → 0 + k ≡ k
    none k = omega arith

    stand : (k : ℕ) → round_line r (0 + k) ≡ line + sum_by round_size (take k r.rounds)
    stand k = ap (round_line r) (none k) ∙ omega (arith, is)

-- ---- One round more

pub rounds_more : (r : Record) (span : Span) (line : ℕ) (past xs : List Round) (i : ℕ) (d : Round) (all least here : Option ℕ) → i < length xs
    → all ≡ lesser least (rounds_from r span line past (drop i xs)) → here ≡ least_failing (round_tests r span line past (get_or xs i d))
    → all ≡ lesser (lesser least here) (rounds_from r span (line + round_size (get_or xs i d)) (get_or xs i d ∷ past) (drop (i + 1) xs))
rounds_more r span line past xs i d all least here less was is =
    was
    ∙ ap (λ l. lesser least (rounds_from r span line past l)) (drop_more xs i d less)
    ∙ ap (λ o. lesser least (lesser o (rounds_from r span (line + round_size (get_or xs i d)) (get_or xs i d ∷ past) (drop (i + 1) xs)))) (sym is)
    ∙ lesser_assoc least here (rounds_from r span (line + round_size (get_or xs i d)) (get_or xs i d ∷ past) (drop (i + 1) xs))

-- the line behind a round
pub round_next : (r : Record) (i : ℕ) (d : Round) → i < length r.rounds → round_line r (i + 1) ≡ round_line r i + round_size (get_or r.rounds i d)
round_next r i d less =
    ap (λ l. clock_line r + sum_by round_size l + 1) (take_more r.rounds i d less)
    ∙ ap (λ n. clock_line r + n + 1) (sum_by_push round_size (take i r.rounds) (get_or r.rounds i d))
    ∙ omega arith

-- ---- All of a dynamic run

-- by the clock, the rounds, and whether one is overdue
pub clock_is : (r : Record) (span : Span) (line : ℕ) (least : Option ℕ) (on_time : Bool) (home : ℕ) → line ≡ clock_line r + 1 → r.span ≡ Some span → home ≡ round_line r (length r.rounds)
    → least ≡ lesser (cond (nat_le span.first span.last) None (Some (clock_line r))) (rounds_from r span line [] r.rounds)
    → on_time ≡ (not (nat_lt (length r.rounds) 10000) || nat_lt span.last (time_before span.first (reverse r.rounds) + r.period))
    → lesser least (cond on_time None (Some home)) ≡ least_failing (clock_tests r span)
clock_is r span line least on_time home from is at so_far on =
    ap (λ o. lesser o (cond on_time None (Some home))) (so_far ∙ ap (lesser clock) (sym (least_rounds r span line from)))
    ∙ sym (lesser_assoc clock (least_failing rounds) (cond on_time None (Some home)))
    ∙ ap (lesser clock) (lesser_comm (least_failing rounds) (cond on_time None (Some home))
    ∙ ap₂ (λ b l. lesser (cond b None (Some l)) (least_failing rounds)) on (at ∙ sym (ap (λ (o : Option Span). elim o [ None ↦ clock_line r | Some s ↦ round_line r (length r.rounds) ]) is))
    ∙ sym (least-cons (home_line r) timely rounds))
    ∙ sym (least-cons (clock_line r) (nat_le span.first span.last) ((home_line r, timely) ∷ rounds))
  where
    clock : Option ℕ
    clock = cond (nat_le span.first span.last) None (Some (clock_line r))

    timely : Bool
    timely = not (nat_lt (length r.rounds) 10000) || nat_lt span.last (time_before span.first (reverse r.rounds) + r.period)

    rounds : List (ℕ × Bool)
    rounds = flat_map (λ p. round_tests r span (round_line r p.0) p.1.0 p.1.1) (enumerate_from 0 (with_past [] r.rounds))
