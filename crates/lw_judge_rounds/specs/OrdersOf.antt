-- The orders of rounds, by round, thread and reactor.
use Rattle.std.specs.Prelude.{ℕ, ◌+◌, ◌≡◌, ◌==◌, Bool, ◌&&◌, List, [], ◌∷◌}
use Rattle.std.specs.List.{list_any}
use Rattle.std.specs.HashSet.{contains}
use Rattle.lw_base.specs.declared.moves.Hop.{Hop}
use Rattle.lw_base.specs.declared.moves.Round.{Round}
use Rattle.lw_judge_rounds.specs.declared.orders.Move.{Move}
use Rattle.lw_judge_rounds.specs.declared.orders.Orders.{Orders}
use Rattle.lw_judge_rounds.specs.contracts.orders.MovePartialEq.TheImpl as block

-- whether two moves are one
unfoldable pub is_move : Move → Move → Bool
is_move = (block.ghosts).eq

-- whether a move is known
abbrev pub knows : Orders → Move → Bool
knows o m = contains is_move o.moves m

-- a round has the move's number, and orders it
abbrev pub is_in_round : Move → Round → Bool
is_in_round m x = x.number == m.round && list_any (λ o. o.thread == m.thread && o.to == m.to) x.orders

-- the moves that are known are those that the rounds order
pub record AreOrders (rounds : List Round) (o : Orders) : Type 0 where
  pub each : (m : Move) → knows o m ≡ list_any (is_in_round m) rounds

-- the least round of which a thread's next hop may be, behind those of `past`, the latest of which comes first
abbrev pub least_round : List Hop → ℕ
least_round [] = 0
least_round (g ∷ past) = g.round + 1
