-- The numbers that lines are given, and the lines that stand there in the text of a record.
use Rattle.std.specs.Prelude.{◌≡◌, ℕ, zero, suc, ◌+◌, List, [], ◌∷◌, codes, decimal, length, slice_get, Option, Some, None}
use Rattle.lw_model.specs.declared.record.Record.{Record}
use Rattle.lw_model.specs.declared.record.ThreadRecord.{ThreadRecord}
use Rattle.lw_base.specs.declared.ends.DeviceEnd.{DeviceEnd}
use Rattle.lw_model.specs.declared.record.Span.{Span}
use Rattle.lw_base.specs.declared.moves.Round.{Round}
use Rattle.lw_base.specs.declared.moves.Row.{Row}
use Rattle.lw_base.specs.declared.moves.Order.{Order}
use Rattle.lw_model.specs.Threads.{of_thread}
use Rattle.lw_model.specs.Lines as number
use Rattle.lw_model.specs.ReportText as text

-- the line of this number of a text; its first has the number 1
abbrev pub numbered_line : List (List ℕ) → ℕ → Option (List ℕ)
numbered_line lines zero = None
numbered_line lines (suc k) = slice_get lines k

-- the line of this number of a record's text
abbrev pub line_at : Record → ℕ → Option (List ℕ)
line_at r n = numbered_line (text.lines_of r) n

-- each line of these of a thread stands where it is numbered
abbrev pub EachStands : {X : Type 0} → (ThreadRecord → List X) → (Record → ℕ → ℕ → ℕ) → (X → List ℕ) → Record → Type 0
EachStands {X} list number line r = (t i : ℕ) (x : X) → slice_get (of_thread list r t) i ≡ Some x → line_at r (number r t i) ≡ Some (line x)

-- the lines of a round: its own, behind it its rows, behind those its orders
pub record RoundStands (r : Record) (first : ℕ) (x : Round) : Type 0 where
  pub round : line_at r first ≡ Some (text.round_line x)
  pub rows : (i : ℕ) (w : Row) → slice_get x.rows i ≡ Some w → line_at r (first + 1 + i) ≡ Some (text.row_line w)
  pub orders : (i : ℕ) (o : Order) → slice_get x.orders i ≡ Some o → line_at r (first + 1 + length x.rows + i) ≡ Some (text.order_line o)

-- the line behind a round is the next round's, and behind the last the pool's
pub record IsNextBehind (r : Record) (j : ℕ) (x : Round) : Type 0 where
  pub next : number.round_line r j + number.round_size x ≡ number.round_line r (suc j)
  pub home : suc j ≡ length r.rounds → number.round_line r (suc j) ≡ number.home_line r

-- every line that is given a number stands at that place of the text
pub record LinesStand (r : Record) : Type 0 where
  pub thread : (t : ℕ) (x : ThreadRecord) → slice_get r.threads t ≡ Some x → line_at r (number.thread_line r t) ≡ Some (text.thread_line t x)
  pub hops : EachStands (λ x. x.hops) number.hop_line text.hop_line r
  pub ran : EachStands (λ x. x.ran) number.ran_line text.ran_line r
  pub did : EachStands (λ x. x.did) number.did_line text.did_line r
  pub called : EachStands (λ x. x.called) number.called_line text.called_line r
  pub replies : EachStands (λ x. x.replies) number.reply_line text.reply_line r
  pub seen : EachStands (λ x. x.seen) number.seen_line text.seen_line r
  pub devices : (d : ℕ) (x : DeviceEnd) → slice_get r.devices d ≡ Some x → line_at r (number.device_line r d) ≡ Some (text.device_line d x)
  pub clock : (s : Span) → r.span ≡ Some s → line_at r (number.clock_line r) ≡ Some (text.line (codes "clock" ∷ decimal s.first ∷ decimal s.last ∷ []))
  pub rounds : (s : Span) → r.span ≡ Some s → (j : ℕ) (x : Round) → slice_get r.rounds j ≡ Some x → RoundStands r (number.round_line r j) x
  pub behind : (s : Span) → r.span ≡ Some s → (j : ℕ) (x : Round) → slice_get r.rounds j ≡ Some x → IsNextBehind r j x
  pub home : line_at r (number.home_line r) ≡ Some (text.line (codes "home" ∷ decimal r.home.small ∷ decimal r.home.large ∷ []))
