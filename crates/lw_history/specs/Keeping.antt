-- What the own row of a thread keeps of its devices, in terms of its history.
use Rattle.std.specs.Prelude.{ℕ, ◌≡◌, ◌<◌, ◌≤◌, ◌==◌, true, List, length, reverse, count_by, filter_map}
use Rattle.std.specs.List.{list_any}
use Rattle.lw_model.specs.declared.script.Script.{Script}
use Rattle.lw_model.specs.Threads.{is_on}
use Rattle.lw_model.specs.Holding.{says, ordinal_given}
use Rattle.lw_model.specs.Devices.{is_refusal}
use Rattle.lw_whole.specs.Letters.{Note}
use Rattle.lw_whole.specs.Notes.{note_at, count_begun, begun_in}
use Rattle.lw_history.specs.Histories.{Event, past_of, calls_of}

-- what the calls of thread t left of device d in its own row
pub record KeepsNote (s : Script) (t d : ℕ) (h : List Event) (n : Note) : Type 0 where
  pub ordinals : n.ordinals ≡ filter_map (ordinal_given (is_on s t d)) (reverse (past_of h))
  pub found : list_any (says (is_on s t d) is_refusal) (past_of h) ≡ true → 1 ≤ n.found
  pub begun : filter_map (count_begun (is_on s t d)) (reverse (past_of h)) ≡ begun_in n
  pub began_by : 1 ≤ n.begun → n.began_by ≡ t
  pub fired : count_by (λ x. x.device == d) (calls_of h) ≡ n.fired

-- a note a device
pub record KeepsRow (s : Script) (t : ℕ) (h : List Event) (own : List Note) : Type 0 where
  pub devices : length own ≡ length s.images
  pub notes : (d : ℕ) → d < length s.images → KeepsNote s t d h (note_at own d)
