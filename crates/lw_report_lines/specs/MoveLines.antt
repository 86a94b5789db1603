-- The lines on threads that move: what each says, where it is one of the kind.
use Rattle.std.specs.Prelude.{ℕ, List, codes, if◌then◌else◌, is_some, Option, Some, None}
use Rattle.lw_model.specs.ScriptShape.{◌>>=◌}
use Rattle.lw_model.specs.declared.record.Span.{Span}
use Rattle.lw_base.specs.declared.moves.Scheduler.{Scheduler}
use Rattle.lw_base.specs.declared.moves.Scheduler.TheVariants.{Static, Dynamic}
use Rattle.lw_base.specs.declared.moves.Row.{Row}
use Rattle.lw_base.specs.declared.moves.Order.{Order}
use Rattle.lw_base.specs.Words.{greatest_u32, greatest_u64}
use Rattle.lw_report_lines.specs.declared.move_lines.RoundHead.{RoundHead}
use Rattle.lw_report_lines.specs.LineParts.{after, spaced}
use Rattle.lw_report_lines.specs.LineKinds.{last32, last64, text_in}

-- whether threads may move
abbrev pub scheduler_in : List ℕ → Option Scheduler
scheduler_in l = if is_some (text_in (codes "scheduler static") l) then Some Static else (if is_some (text_in (codes "scheduler dynamic") l) then Some Dynamic else None)

-- the first and the last reading of the clock
abbrev pub clock_in : List ℕ → Option Span
clock_in l = do
  a ← after (codes "clock") l
  first ← spaced greatest_u64 a
  last ← last64 first.1
  Some (record { first = first.0; last = last })

-- a round's number and its time
abbrev pub round_in : List ℕ → Option RoundHead
round_in l = do
  a ← after (codes "round") l
  number ← spaced greatest_u32 a
  time ← last64 number.1
  Some (record { number = number.0; time = time })

-- what a round measured of a thread
abbrev pub row_in : List ℕ → Option Row
row_in l = do
  a ← after (codes "row") l
  thread ← spaced greatest_u32 a
  reactor ← spaced greatest_u32 thread.1
  busy ← spaced greatest_u64 reactor.1
  idle ← last64 busy.1
  Some (record { thread = thread.0; reactor = reactor.0; busy = busy.0; idle = idle })

-- what a round ordered of a thread
abbrev pub order_in : List ℕ → Option Order
order_in l = do
  a ← after (codes "order") l
  thread ← spaced greatest_u32 a
  to ← last32 thread.1
  Some (record { thread = thread.0; to = to })
