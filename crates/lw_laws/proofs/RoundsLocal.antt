-- The reading of what a dynamic run has alone is local.
use Rattle.std.proofs.Common.{◌≡◌, ℕ, zero, suc, ◌+◌, List, [], ◌∷◌, length, Option, Some, None, Ok, refl, sym, ap, ◌∙◌, subst, arith}
use Rattle.lw_base.specs.declared.moves.Scheduler.{Scheduler}
use Rattle.lw_base.specs.declared.moves.Scheduler.TheVariants.{Static, Dynamic}
use Rattle.lw_base.specs.declared.moves.Round.{Round}
use Rattle.lw_report_lines.specs.declared.move_lines.RoundHead.{RoundHead}
use Rattle.lw_report_lines.specs.MoveLines.{clock_in, round_in, row_in, order_in}
use Rattle.lw_report.specs.Machine.{State, taken, one, many}
use Rattle.lw_report.specs.Rounds.{round_of, rounds_up_to, rounds_at, moves_at}
use Rattle.lw_report.proofs.RoundLoops.{step, taken_none, rounds_same}
use Rattle.lw_laws.proofs.Local.{Reader, Local, not_ok, pure_local, both_local, one_local, taken_local, many_local}

round_local : (head : RoundHead) → Local (λ s. Ok (round_of head s))
round_local head =
    both_local (λ s. Ok (many row_in s))
    (λ rows s. Ok (record { number = head.number; time = head.time; rows = rows; orders = (many order_in s).0 }, (many order_in s).1))
    (many_local row_in)
    (λ rows. both_local (λ s. Ok (many order_in s)) (λ orders s. Ok (record { number = head.number; time = head.time; rows = rows; orders = orders }, s)) (many_local order_in) (λ orders. pure_local _))

-- what is read behind a line that may be a round's
abbrev next : ℕ → Option RoundHead → Reader (List Round)
next k None s = Ok ([], s)
next k (Some head) s = Ok ((round_of head s).0 ∷ (rounds_up_to k (round_of head s).1).0, (rounds_up_to k (round_of head s).1).1)

next_is : (k : ℕ) (s : State) → next k (taken round_in s).0 (taken round_in s).1 ≡ Ok (rounds_up_to (suc k) s)
next_is k s = at (taken round_in s).0 (taken round_in s).1 refl
  where
    at : (o : Option RoundHead) (t : State) → (o, t) ≡ taken round_in s → next k o t ≡ Ok (step k s (o, t))
    at None t e = ap (λ q. Ok ([], q)) (sym (taken_none round_in s t e))
    at (Some head) t e = refl

up_to_local : (k : ℕ) → Local (λ s. Ok (rounds_up_to k s))
up_to_local zero = pure_local []
up_to_local (suc k) = subst Local (λ i s. next_is k s i) (both_local (λ s. Ok (taken round_in s)) (next k) (taken_local round_in) (behind (up_to_local k)))
  where
    behind : Local (λ s. Ok (rounds_up_to k s)) → (o : Option RoundHead) → Local (next k o)
    behind rest None = pure_local []
    behind rest (Some head) =
        both_local (λ s. Ok (round_of head s)) (λ x s. Ok (x ∷ (rounds_up_to k s).0, (rounds_up_to k s).1)) (round_local head)
        (λ x. both_local (λ s. Ok (rounds_up_to k s)) (λ xs s. Ok (x ∷ xs, s)) rest (λ xs. pure_local (x ∷ xs)))

-- of two texts the longer has lines enough for both
rounds_local : Local (λ s. Ok (rounds_at s))
rounds_local = record {
  fails_on = λ s m e. not_ok e;
  goes_on = λ s s' xs e. (up_to_local (length s.lines)).goes_on s s' xs e;
  fails = λ end s t m a e below. not_ok e;
  reads = λ end s t s' xs a e below.
      let k = length s.lines + length t.lines in
      let read = (up_to_local k).reads end s t s' xs a (ap (λ q. Ok q) (rounds_same k (length s.lines) s (omega arith) (omega arith)) ∙ e) below in
      (read.0, ap (λ q. Ok q) (rounds_same (length t.lines) k t (omega arith) (omega arith)) ∙ read.1, read.2);
}

pub moves_local : (scheduler : Scheduler) → Local (moves_at scheduler)
moves_local Static = pure_local _
moves_local Dynamic =
    both_local (one clock_in) (λ span s. Ok (record { span = Some span; rounds = (rounds_at s).0 }, (rounds_at s).1)) (one_local clock_in)
    (λ span. both_local (λ s. Ok (rounds_at s)) (λ rounds s. Ok (record { span = Some span; rounds = rounds }, s)) rounds_local (λ rounds. pure_local _))
