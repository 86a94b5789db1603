-- What a dynamic run has alone: the text of what was read, its numbers, and that it is read back.
use Rattle.std.proofs.Common.{◌≡◌, ℕ, zero, suc, ◌+◌, ◌≤◌, true, false, List, [], ◌∷◌, ◌++◌, map, flat_map, length, Option, Some, None, Result, Ok, Err, refl, sym, ap, subst, ◌∙◌, arith}
use Rattle.std.specs.List.{AllByRecursion}
use Rattle.lw_base.specs.declared.moves.Scheduler.{Scheduler}
use Rattle.lw_base.specs.declared.moves.Scheduler.TheVariants.{Static, Dynamic}
use Rattle.lw_base.specs.declared.moves.Round.{Round}
use Rattle.lw_model.specs.declared.record.Span.{Span}
use Rattle.lw_model.specs.Printable.{has_rounds}
use Rattle.lw_model.specs.ReportText.{clock_lines, row_line, order_line, round_line, round_lines}
use Rattle.lw_model.specs.Ranges.{RowFits, OrderFits, RoundFits, SpanFits}
use Rattle.lw_report_lines.specs.declared.move_lines.RoundHead.{RoundHead}
use Rattle.lw_report_lines.specs.MoveLines.{clock_in, round_in, row_in, order_in}
use Rattle.lw_report_lines.proofs.Moves.{clock_line, head_line, clock_text, head_text, row_text, order_text, ClockFits, HeadFits, clock_fits, head_fits, row_fits, order_fits, clock_back, head_back, row_back, order_back}
use Rattle.lw_report.specs.declared.contents.Moves.{Moves}
use Rattle.lw_report.specs.Machine.{State, ◌>>=◌, taken, one, many}
use Rattle.lw_report.specs.Rounds.{round_of, rounds_up_to, rounds_at, moves_at}
use Rattle.lw_report.proofs.Said.{read_parts, many_fit, one_each}
use Rattle.lw_report.proofs.Reading.{state}
use Rattle.lw_report.proofs.ReportTexts.{fed, Took, took_both, one_took, many_took}
use Rattle.lw_report.proofs.MachineBack.{fed_both, one_back, Stops, stops_over, many_back, Back}
use Rattle.lw_report.proofs.RoundLoops.{step, taken_one, round_of_lines}

-- ---- texts

round_took : (head : RoundHead) (s t : State) → (Some head, t) ≡ taken round_in s → Took s (round_lines (round_of head t).0) (round_of head t).1
round_took head s t e =
    let rows = many row_in t in
    let orders = many order_in rows.1 in
    let first = one_took round_in head_line s t head (λ l h. head_text l head h) (taken_one round_in s t head e) in
    let above = took_both s t rows.1 (head_line head ∷ []) (map row_line rows.0) first (many_took row_in row_line row_text t) in
    took_both s rows.1 orders.1 (head_line head ∷ map row_line rows.0) (map order_line orders.0) above (many_took order_in order_line order_text rows.1)

rounds_took : (k : ℕ) (s : State) → Took s (flat_map round_lines (rounds_up_to k s).0) (rounds_up_to k s).1
rounds_took zero s = refl
rounds_took (suc k) s = at (λ u. rounds_took k u) (taken round_in s).0 (taken round_in s).1 refl
  where
    at : ((u : State) → Took u (flat_map round_lines (rounds_up_to k u).0) (rounds_up_to k u).1) → (o : Option RoundHead) (t : State) → (o, t) ≡ taken round_in s
        → Took s (flat_map round_lines (step k s (o, t)).0) (step k s (o, t)).1
    at behind None t e = refl
    at behind (Some head) t e =
        let x = round_of head t in
        let rest = rounds_up_to k x.1 in
        took_both s x.1 rest.1 (round_lines x.0) (flat_map round_lines rest.0) (round_took head s t e) (behind x.1)

pub moves_took : (scheduler : Scheduler) (s t : State) (m : Moves) → moves_at scheduler s ≡ Ok (m, t) → Took s (clock_lines m.span ++ flat_map round_lines m.rounds) t
moves_took Static s t m e = subst (λ (p : Moves × State). Took s (clock_lines p.0.span ++ flat_map round_lines p.0.rounds) p.1) (ok_is e) refl
  where
    ok_is : {p : Moves × State} → ◌≡◌ {A = Result (Moves × State) ℕ} (Ok p) (Ok (m, t)) → p ≡ (m, t)
    ok_is e = cc
moves_took Dynamic s t m e =
    let clock = read_parts (one clock_in s) (λ c. Ok (record { span = Some c.0; rounds = (rounds_at c.1).0 }, (rounds_at c.1).1)) (m, t) e in
    let rest = rounds_at clock.0.1 in
    let first = one_took clock_in clock_line s clock.0.1 clock.0.0 (λ l h. clock_text l clock.0.0 h) clock.1 in
    subst (λ (p : Moves × State). Took s (clock_lines p.0.span ++ flat_map round_lines p.0.rounds) p.1) (ok_is clock.2)
    (took_both s clock.0.1 rest.1 (clock_line clock.0.0 ∷ []) (flat_map round_lines rest.0) first (rounds_took (length clock.0.1.lines) clock.0.1))
  where
    ok_is : {p : Moves × State} → ◌≡◌ {A = Result (Moves × State) ℕ} (Ok p) (Ok (m, t)) → p ≡ (m, t)
    ok_is e = cc

-- ---- ranges

rounds_fit : (k : ℕ) (s : State) → AllByRecursion RoundFits (rounds_up_to k s).0
rounds_fit zero s = tt
rounds_fit (suc k) s = at (λ u. rounds_fit k u) (taken round_in s).0 (taken round_in s).1 refl
  where
    at : ((u : State) → AllByRecursion RoundFits (rounds_up_to k u).0) → (o : Option RoundHead) (t : State) → (o, t) ≡ taken round_in s → AllByRecursion RoundFits (step k s (o, t)).0
    at behind None t e = tt
    at behind (Some head) t e =
        let rows = many row_in t in
        let first = one_each round_in HeadFits head_fits s t head (taken_one round_in s t head e) in
        ((first.0, first.1, many_fit row_in RowFits row_fits t.line t.lines, many_fit order_in OrderFits order_fits rows.1.line rows.1.lines), behind (round_of head t).1)

pub moves_fit : (scheduler : Scheduler) (s t : State) (m : Moves) → moves_at scheduler s ≡ Ok (m, t) → SpanFits m.span × AllByRecursion RoundFits m.rounds
moves_fit Static s t m e = subst (λ (p : Moves). SpanFits p.span × AllByRecursion RoundFits p.rounds) (ap (λ (r : Result (Moves × State) ℕ). elim r [ Ok q ↦ q.0 | Err n ↦ m ]) e) (tt, tt)
moves_fit Dynamic s t m e =
    let clock = read_parts (one clock_in s) (λ c. Ok (record { span = Some c.0; rounds = (rounds_at c.1).0 }, (rounds_at c.1).1)) (m, t) e in
    let first = one_each clock_in ClockFits clock_fits s clock.0.1 clock.0.0 clock.1 in
    subst (λ (p : Moves). SpanFits p.span × AllByRecursion RoundFits p.rounds) (ap (λ (r : Result (Moves × State) ℕ). elim r [ Ok q ↦ q.0 | Err n ↦ m ]) clock.2)
    (first, rounds_fit (length clock.0.1.lines) clock.0.1)

-- what was read can be printed
pub moves_printable : (scheduler : Scheduler) (s t : State) (m : Moves) → moves_at scheduler s ≡ Ok (m, t) → has_rounds scheduler m.span m.rounds ≡ true
moves_printable Static s t m e = subst (λ (p : Moves). has_rounds Static p.span p.rounds ≡ true) (ap (λ (r : Result (Moves × State) ℕ). elim r [ Ok q ↦ q.0 | Err n ↦ m ]) e) refl
moves_printable Dynamic s t m e =
    let clock = read_parts (one clock_in s) (λ c. Ok (record { span = Some c.0; rounds = (rounds_at c.1).0 }, (rounds_at c.1).1)) (m, t) e in
    subst (λ (p : Moves). has_rounds Dynamic p.span p.rounds ≡ true) (ap (λ (r : Result (Moves × State) ℕ). elim r [ Ok q ↦ q.0 | Err n ↦ m ]) clock.2) refl

-- ---- back

-- the first of these lines begins no round, and stands neither under one
pub record NextRound (R : List (List ℕ)) : Type 0 where
  pub round : Stops round_in R
  pub row : Stops row_in R
  pub order : Stops order_in R

-- a line that is another's is not taken
untaken : (s : State) (R : List (List ℕ)) → Stops round_in R → s.lines ≡ R → (k : ℕ) → rounds_up_to k s ≡ ([], s)
untaken s R stops e zero = refl
untaken s R stops e (suc k) = subst (λ ls. rounds_up_to (suc k) (state s.line ls) ≡ ([], state s.line ls)) (sym e) (at R stops)
  where
    at : (ls : List (List ℕ)) → Stops round_in ls → rounds_up_to (suc k) (state s.line ls) ≡ ([], state s.line ls)
    at [] h = refl
    at (l ∷ ls) h =
        ap (λ (o : Option RoundHead). step k (state s.line (l ∷ ls)) (elim o as (λ _. Option RoundHead × State) [ Some y ↦ (Some y, state (s.line + 1) ls) | None ↦ (None, state s.line (l ∷ ls)) ])) h

taken_back : (s : State) (l : List ℕ) (ls : List (List ℕ)) (head : RoundHead) → s.lines ≡ l ∷ ls → round_in l ≡ Some head → taken round_in s ≡ (Some head, state (s.line + 1) ls)
taken_back s l ls head e h =
    ap (λ q. taken round_in (state s.line q)) e
    ∙ ap (λ (o : Option RoundHead). elim o as (λ _. Option RoundHead × State) [ Some y ↦ (Some y, state (s.line + 1) ls) | None ↦ (None, state s.line (l ∷ ls)) ]) h

-- what stands behind a round: another, or what stands behind all
next_of : (xs : List Round) (R : List (List ℕ)) → NextRound R → Stops row_in (fed (flat_map round_lines xs) ++ R) × Stops order_in (fed (flat_map round_lines xs) ++ R)
next_of [] R next = (next.row, next.order)
next_of (x ∷ xs) R next = (refl, refl)

rounds_back : (xs : List Round) (k : ℕ) (s : State) (R : List (List ℕ)) → AllByRecursion RoundFits xs → length xs ≤ k → NextRound R → s.lines ≡ fed (flat_map round_lines xs) ++ R
    → (t : State) × (t.lines ≡ R) × (rounds_up_to k s ≡ (xs, t))
rounds_back [] k s R fit small next e = (s, e, untaken s R next.round e k)
rounds_back (x ∷ xs) zero s R fit small next e = absurd (omega arith)
rounds_back (x ∷ xs) (suc k) s R fit small next e =
    let head : RoundHead = record { number = x.number; time = x.time } in
    let after = fed (flat_map round_lines xs) ++ R in
    let orders = fed (map order_line x.orders) ++ after in
    let rows = fed (map row_line x.rows) ++ orders in
    let split : fed (round_lines x ++ flat_map round_lines xs) ++ R ≡ (head_line head ++ 10 ∷ []) ∷ rows =
    fed_both (round_lines x) (flat_map round_lines xs) R ∙ fed_both (round_line x ∷ map row_line x.rows) (map order_line x.orders) after ∙ fed_both (round_line x ∷ []) (map row_line x.rows) orders in
    let first = taken_back s (head_line head ++ 10 ∷ []) rows head (e ∙ split) (head_back head (fit.0.0, fit.0.1)) in
    let s0 = state (s.line + 1) rows in
    let others = next_of xs R next in
    let e1 = many_back row_in row_line RowFits row_back x.rows fit.0.2 s0 orders (stops_over row_in order_line (λ o. refl) x.orders after others.0) refl in
    let s1 = state (s0.line + length x.rows) orders in
    let e2 = many_back order_in order_line OrderFits order_back x.orders fit.0.3 s1 after others.1 refl in
    let s2 = state (s1.line + length x.orders) after in
    let round : (x, s2) ≡ round_of head s0 = round_of_lines head s0 s1 s2 x.rows x.orders e1 e2 in
    let rest = rounds_back xs k s2 R fit.1 (omega (arith, small)) next refl in (
      rest.0,
      rest.1,
      ap (step k s) first
          ∙ ap (λ (p : Round × State). (p.0 ∷ (rounds_up_to k p.1).0, (rounds_up_to k p.1).1)) (sym round)
          ∙ ap (λ (p : List Round × State). (x ∷ p.0, p.1)) rest.2,
    )

-- there are no more rounds than lines
rounds_few : (xs : List Round) (R : List (List ℕ)) → length xs ≤ length (fed (flat_map round_lines xs) ++ R)
rounds_few [] R = omega arith
rounds_few (x ∷ xs) R =
    let rest = rounds_few xs R in
    let under = map row_line x.rows ++ map order_line x.orders in
    let long : length (fed (under ++ flat_map round_lines xs) ++ R) ≡ length (fed under ++ (fed (flat_map round_lines xs) ++ R)) = ap length (fed_both under (flat_map round_lines xs) R) in
    let more = longer (fed under) (fed (flat_map round_lines xs) ++ R) in
    omega (arith, rest, long, more)
  where
    longer : (ys zs : List (List ℕ)) → length zs ≤ length (ys ++ zs)
    longer [] zs = omega arith
    longer (y ∷ ys) zs = let h = longer ys zs in omega (arith, h)

pub moves_read : (scheduler : Scheduler) (span : Option Span) (rounds : List Round) (s : State) (R : List (List ℕ)) → has_rounds scheduler span rounds ≡ true → SpanFits span → AllByRecursion RoundFits rounds → NextRound R
    → s.lines ≡ fed (clock_lines span ++ flat_map round_lines rounds) ++ R → Back (moves_at scheduler s) (record { span = span; rounds = rounds }) R
moves_read Static None [] s R printable small fit next e = (s, e, refl)
moves_read Static None (x ∷ xs) s R printable small fit next e = let wrong : false ≡ true = printable in cc
moves_read Static (Some span) rounds s R printable small fit next e = let wrong : false ≡ true = printable in cc
moves_read Dynamic None rounds s R printable small fit next e = let wrong : false ≡ true = printable in cc
moves_read Dynamic (Some span) rounds s R printable small fit next e =
    let behind = fed (flat_map round_lines rounds) ++ R in
    let clock = one_back clock_in s (clock_line span ++ 10 ∷ []) behind span e (clock_back span small) in
    let s1 = state (s.line + 1) behind in
    let rest = rounds_back rounds (length behind) s1 R fit (rounds_few rounds R) next refl in (
      rest.0,
      rest.1,
      ap (λ (r : Result (Span × State) ℕ). r >>= (λ c. Ok (record { span = Some c.0; rounds = (rounds_at c.1).0 }, (rounds_at c.1).1))) clock
          ∙ ap (λ (p : List Round × State). Ok (record { span = Some span; rounds = p.0 }, p.1)) rest.2,
    )
