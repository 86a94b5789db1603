-- The rounds of a dynamic run.
use Rattle.std.specs.Prelude.{ℕ, ◌+◌, ◌<◌, ◌≤◌, ◌≡◌, ◌==◌, nat_lt, nat_le, Bool, true, ◌&&◌, IsTrue, List, [], ◌∷◌, length, reverse, Some, None}
use Rattle.std.specs.List.{list_all, AllByRecursion}
use Rattle.lw_model.specs.declared.record.Record.{Record}
use Rattle.lw_model.specs.declared.record.Span.{Span}
use Rattle.lw_base.specs.declared.moves.Round.{Round}
use Rattle.lw_base.specs.declared.moves.Row.{Row}
use Rattle.lw_model.specs.Threads.{thread_count}
use Rattle.lw_model.specs.OwnOrder.{with_past}
use Rattle.lw_base.specs.Plan.{free_plan}
use Rattle.lw_base.specs.Limits.{standard}

-- the time that a round has to be a period past: that of the round before, or FIRST
abbrev pub time_before : ℕ → List Round → ℕ
time_before first [] = first
time_before first (x ∷ past) = x.time

-- a round is numbered from 1, at most 10,000, a period past the one before, and not past the last reading
abbrev pub round_fits : ℕ → Span → List Round → Round → Bool
round_fits period span past x = x.number == length past + 1 && nat_le x.number 10000 && nat_le (time_before span.first past + period) x.time && nat_le x.time span.last

-- a row is of a thread and a reactor that exist, and of a thread above that of the row before it
abbrev pub row_fits : Record → List Row → Row → Bool
row_fits r past w = nat_lt w.thread (thread_count r.script) && nat_lt w.reactor r.reactors && elim past [ [] ↦ true | v ∷ rest ↦ nat_lt v.thread w.thread ]

-- the rules of the rounds of a dynamic run
pub record RoundsHold (r : Record) (span : Span) : Type 0 where
  pub clock : span.first ≤ span.last
  pub each : IsTrue (list_all (λ p. round_fits r.period span p.0 p.1) (with_past [] r.rounds))
  pub rows : AllByRecursion (λ x. IsTrue (list_all (λ p. row_fits r p.0 p.1) (with_past [] x.rows))) r.rounds
  pub orders : AllByRecursion (λ x. x.orders ≡ free_plan standard r.reactors x.rows) r.rounds
  pub none_overdue : length r.rounds < 10000 → span.last < time_before span.first (reverse r.rounds) + r.period

-- these hold where the run was dynamic
abbrev pub RoundsAndOrders : Record → Type 0
RoundsAndOrders r = elim r.span [ None ↦ Unit {0} | Some span ↦ RoundsHold r span ]
