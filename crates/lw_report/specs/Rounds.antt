-- Reading what a dynamic run has alone: the clock's line, and the rounds.
use Rattle.std.specs.Prelude.{ℕ, zero, suc, List, [], ◌∷◌, length, Some, None, Result, Ok}
use Rattle.lw_base.specs.declared.moves.Scheduler.{Scheduler}
use Rattle.lw_base.specs.declared.moves.Scheduler.TheVariants.{Static, Dynamic}
use Rattle.lw_base.specs.declared.moves.Round.{Round}
use Rattle.lw_report.specs.declared.contents.Moves.{Moves}
use Rattle.lw_report_lines.specs.declared.move_lines.RoundHead.{RoundHead}
use Rattle.lw_report_lines.specs.MoveLines.{clock_in, round_in, row_in, order_in}
use Rattle.lw_report.specs.Machine.{State, ◌>>=◌, taken, one, many}

-- a round: all rows behind its line, and all orders behind them
abbrev pub round_of : RoundHead → State → Round × State
round_of head s =
    let rows = many row_in s in
    let orders = many order_in rows.1 in
    (record { number = head.number; time = head.time; rows = rows.0; orders = orders.0 }, orders.1)

-- rounds, up to the first line that begins none, and at most so many
abbrev pub rounds_up_to : ℕ → State → List Round × State
rounds_up_to zero s = ([], s)
rounds_up_to (suc k) s = elim (taken round_in s).0 [
  | None ↦ ([], s)
  | Some head ↦
      let round = round_of head (taken round_in s).1 in
      let rest = rounds_up_to k round.1 in
      (round.0 ∷ rest.0, rest.1)
]

-- all rounds: there are no more than lines
abbrev pub rounds_at : State → List Round × State
rounds_at s = rounds_up_to (length s.lines) s

-- a static run has none of these lines
abbrev pub moves_at : Scheduler → State → Result (Moves × State) ℕ
moves_at Static s = Ok (record { span = None; rounds = [] }, s)
moves_at Dynamic s = do
  clock ← one clock_in s
  Ok (record { span = Some clock.0; rounds = (rounds_at clock.1).0 }, (rounds_at clock.1).1)
