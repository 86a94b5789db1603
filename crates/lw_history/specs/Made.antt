-- Which of the sends that a thread asked for were made.
use Rattle.std.specs.Prelude.{ℕ, ◌≡◌, ◌<◌, List, ◌++◌, length}
use Rattle.lw_base.specs.Letters.{list_at}
use Rattle.lw_model.specs.Sent.{to_thread}
use Rattle.lw_whole.specs.Letters.{Letter}
use Rattle.lw_whole.specs.Unsent.{named_from}

-- Of all that thread s asked to send the first were sent, and the others are still to be: what was sent to each thread is what of the
-- first goes to it, numbered from 0.
pub record AreMade (s : ℕ) (sent : List (List Letter)) (unsent all : List (ℕ × Letter)) : Type 0 where
  pub made : List (ℕ × Letter)
  pub parts : all ≡ made ++ unsent
  pub each : (t : ℕ) → t < length sent → list_at sent t ≡ named_from s 0 (to_thread t made)
