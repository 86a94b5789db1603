-- What is known before each round.
use Rattle.std.specs.Prelude.{ℕ, ◌+◌, ◌≡◌, List, [], ◌∷◌, length, replicate}
use Rattle.lw_base.specs.declared.moves.Round.{Round}
use Rattle.lw_base.specs.declared.moves.Row.{Row}
use Rattle.lw_base.specs.Masks.{every_reactor}
use Rattle.lw_model.specs.declared.record.Record.{Record}
use Rattle.lw_model.specs.Rounds.{time_before}
use Rattle.lw_judge_rounds.specs.declared.rounds.Before.{Before}

-- each thread's mask names every reactor
abbrev pub AllowAll : Record → List ℕ → Type 0
AllowAll r masks = masks ≡ replicate (length r.threads) every_reactor

-- the rounds of `past`, the latest first, came before, where the first reading was `first`
pub record ComesBehind (first : ℕ) (past : List Round) (b : Before) : Type 0 where
  pub count : b.count ≡ length past
  pub time : b.time ≡ time_before first past

-- the least thread of which the next row may be, behind the rows of `past`, the latest of which comes first
abbrev pub least_thread : List Row → ℕ
least_thread [] = 0
least_thread (v ∷ past) = v.thread + 1
